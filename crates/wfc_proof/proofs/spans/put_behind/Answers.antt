use Rattle.wfc_proof.proofs.SpanLemmas.{kept_cut, kept_put_ok, kept_put_err, span_whole, span_spelled}
use Rattle.wfc_proof.proofs.spans.put_behind.Goals as goal

pub put_line-requires : goal.put_line-requires
put_line-requires g c = record { whole = span_whole c.args.kept c.requires.kept; spelled = span_spelled c.args.kept c.requires.kept }

pub returns-in-Ok : goal.returns-in-Ok
returns-in-Ok g c = record {
  ok = kept_put_ok (g.S.Sink.seen c.args.sink.now) (g.S.Sink.seen c.put_line.new.sink) (g.S.Sink.seen c.put_settled_part.new.sink) c.args.kept c.args.line c.put_settled_part.result c.put_line.ensures.format
      c.in-Ok.ensures.put c.put_settled_part.ensures.ok;
  failed = kept_put_err (g.S.Sink.seen c.args.sink.now) (g.S.Sink.seen c.put_line.new.sink) (g.S.Sink.seen c.put_settled_part.new.sink) c.args.kept c.args.line c.put_settled_part.result c.put_line.ensures.format
      c.in-Ok.ensures.put c.put_settled_part.ensures.failed;
}

pub returns-in-Err : goal.returns-in-Err
returns-in-Err g c = record {
  ok = record {};
  failed = kept_cut (g.S.Sink.seen c.args.sink.now) (g.S.Sink.seen c.put_line.new.sink) c.args.kept c.args.line c.requires.kept c.put_line.ensures.format c.in-Err.ensures.put;
}
