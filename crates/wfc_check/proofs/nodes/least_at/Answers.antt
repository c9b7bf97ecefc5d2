use Rattle.std.proofs.Common.{◌∙◌, sym, ap, arith}
use Rattle.wfc_problem.specs.Network.{values}
use Rattle.wfc_check.specs.Entries.{standing}
use Rattle.wfc_check.proofs.Scans.{find_next}
use Rattle.wfc_check.proofs.nodes.least_at.Goals as goal

pub loop-value-preserved : goal.loop-value-preserved
loop-value-preserved c =
    let whole = c.values-value-end.ensures.value ∙ ap values c.problem.ensures.value in
    c.loop-value.invariant ∙ find_next (standing c.args.trail.now c.args.cell) c.loop-value.value _ (omega (arith, whole, c.loop-value-test.true)) (sym c.has.ensures.value ∙ c.if-has.false)
