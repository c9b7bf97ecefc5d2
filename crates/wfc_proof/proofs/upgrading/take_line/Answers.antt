use Rattle.std.proofs.Common.{sym, ◌∙◌}
use Rattle.wfc_proof.proofs.UpgradeLemmas.{takes_grown, takes_apart, takes_front}
use Rattle.wfc_proof.proofs.upgrading.take_line.Goals as goal

pub returns-in-Some : goal.returns-in-Some
returns-in-Some g c = record {
  ok = takes_grown (g.S.Sink.seen c.args.sink.now) c.args.kept c.args.line c.as_span-told.result c.in-Some.span (c.as_span-told.ensures.whole c.requires.whole) c.as_span-told.ensures.span
      c.as_span-told.ensures.counts c.requires.kept (sym c.join_with.ensures.value ∙ c.in-Some.is);
  failed = record {};
}

pub returns-in-Ok : goal.returns-in-Ok
returns-in-Ok g c = record {
  ok = takes_apart (g.S.Sink.seen c.args.sink.now) (g.S.Sink.seen c.put_apart.new.sink) c.args.kept c.in-Ok.after c.args.line c.as_span-told.result (c.as_span-told.ensures.whole c.requires.whole)
      c.as_span-told.ensures.span c.as_span-told.ensures.counts (sym c.join_with.ensures.value ∙ c.in_default.is) c.in-Ok.ensures.ok;
  failed = record {};
}

pub returns-in-Err : goal.returns-in-Err
returns-in-Err g c = record {
  ok = record {};
  failed = takes_front (g.S.Sink.seen c.args.sink.now) (g.S.Sink.seen c.put_apart.new.sink) c.args.kept c.in-Err.field-0.kept c.args.line c.as_span-told.result (c.as_span-told.ensures.whole c.requires.whole)
      c.as_span-told.ensures.span c.as_span-told.ensures.counts (sym c.join_with.ensures.value ∙ c.in_default.is) c.in-Err.ensures.failed;
}
