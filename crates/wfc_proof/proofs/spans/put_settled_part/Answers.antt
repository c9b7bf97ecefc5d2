use Rattle.wfc_proof.proofs.SpanLemmas.{settled_cut}
use Rattle.wfc_proof.proofs.spans.put_settled_part.Goals as goal

pub returns-in-Err : goal.returns-in-Err
returns-in-Err g c = record {
  ok = record {};
  failed = settled_cut (g.S.Sink.seen c.args.sink.now) (g.S.Sink.seen c.put_line.new.sink) c.args.line c.requires.spelled (λ cell first last dir is. c.in_default.not-Span cell first last dir is) c.put_line.ensures.format c.in-Err.ensures.put;
}
