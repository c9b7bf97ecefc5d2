use Rattle.std.proofs.Common.{refl, ap, arith, ◌∙◌, ◌≡◌}
use Rattle.wfc_app.specs.Choosers.{rules_made}
use Rattle.wfc_app.proofs.ServingLemmas.{keeps_short, keeps_with, made_more, none_made}
use Rattle.wfc_app.proofs.serve.Goals as goal

pub loop-made-init : goal.loop-made-init
loop-made-init g c = (none_made _ _ c.new-choosers.ensures.items, refl)

pub loop-made-preserved : goal.loop-made-preserved
loop-made-preserved g c =
    (made_more c.loop-made._made _ _ c.loop-made.invariant.0 c.in-Ok-push_both.ensures.both, c.loop-made.invariant.1)

pub returns-in_default : goal.returns-in_default
returns-in_default g c =
    record { promises = keeps_short _ _ _ _ _ _ _ _ (ap g.E.Sink.seen c.loop-made.invariant.1) c.refuse.ensures.status c.refuse.ensures.told }

pub returns-in_default-new : goal.returns-in_default-new
returns-in_default-new g c = record {
  promises = keeps_short _ _ _ _ _ _ _ _ (ap g.E.Sink.seen c.loop-made.invariant.1) c.refuse-in_default-new.ensures.status c.refuse-in_default-new.ensures.told;
}

pub returns-in_default-push_both : goal.returns-in_default-push_both
returns-in_default-push_both g c = record {
  promises = keeps_short _ _ _ _ _ _ _ _ (ap g.E.Sink.seen c.loop-made.invariant.1) c.refuse-in_default-push_both.ensures.status
      c.refuse-in_default-push_both.ensures.told;
}

pub returns : goal.returns
returns g c =
    let all : c.loop-made._made ≡ c.needed_choosers-made-end.result = omega (arith, c.loop-made-test.false, c.loop-made.auto._made-end) in
    record {
      promises = keeps_with _ _ _ _ _ _ _ _ _ _ _ (c.loop-made.invariant.0 ∙ ap rules_made (all ∙ c.needed_choosers-made-end.ensures.exact))
          (ap g.E.Sink.seen c.loop-made.invariant.1) c.run.ensures.promises;
    }
