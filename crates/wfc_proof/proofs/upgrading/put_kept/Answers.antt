use Rattle.std.proofs.Common.{sym, ◌∙◌, ap}
use Rattle.wfc_proof.specs.Spans.{is_kept}
use Rattle.wfc_proof.proofs.SpanLemmas.{span_whole}
use Rattle.wfc_proof.proofs.UpgradeLemmas.{kept_put_all}
use Rattle.wfc_proof.proofs.upgrading.put_kept.Goals as goal

pub write_line-requires : goal.write_line-requires
write_line-requires g c = record { whole = span_whole c.in-Some.span (sym (ap is_kept c.in-Some.is) ∙ c.requires.kept) }

pub returns-in-Some : goal.returns-in-Some
returns-in-Some g c = record {
  put = kept_put_all (g.S.Sink.seen c.args.sink.now) (g.S.Sink.seen c.write_line.new.sink) c.args.kept c.in-Some.span c.write_line.result c.in-Some.is c.write_line.ensures.put;
}
