use Rattle.std.proofs.Common.{◌∙◌, ap, arith}
use Rattle.std.specs.Prelude.{◌==◌, ◌||◌, not}
use Rattle.wfc_problem.specs.Network.{values}
use Rattle.wfc_check.specs.Entries.{standing}
use Rattle.wfc_check.proofs.Scans.{all_next, no_other}
use Rattle.wfc_check.proofs.nodes.has_other.Goals as goal

pub loop-other-preserved : goal.loop-other-preserved
loop-other-preserved c =
    let whole = c.values-other-end.ensures.value ∙ ap values c.problem.ensures.value in
    let D = standing c.args.trail.now c.args.cell in
    c.loop-other.invariant ∙ all_next (λ w. w == c.args.value || not (D w)) c.loop-other.other _ (omega (arith, whole, c.loop-other-test.true))
    (no_other (c.loop-other.other == c.args.value) (D c.loop-other.other) c.stands_beside.result c.stands_beside.ensures.value c.if-stands_beside.false)
