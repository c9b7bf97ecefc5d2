use Rattle.std.proofs.Common.{◌∙◌, ◌<◌, sym, ap, subst, arith}
use Rattle.wfc_problem.specs.Network.{Network, IsProblem, values}
use Rattle.wfc_check.proofs.Entries.{left_inside}
use Rattle.wfc_check.proofs.Branches.{cutting_begins, cutting_taken, cutting_skipped, cutting_ends}
use Rattle.wfc_check.proofs.nodes.branch.Goals as goal
use Rattle.wfc_check.proofs.nodes.branch.Goals.{then-stands_beside, else-stands_beside}

pub loop-other-init : goal.loop-other-init
loop-other-init c = cutting_begins _ _ c.args.cell c.args.value c.put_off.ensures.more

pub stands_beside-requires-clause-cell_in : goal.stands_beside-requires-clause-cell_in
stands_beside-requires-clause-cell_in c =
    let p = subst IsProblem (ap (λ t. t.problem) c.put_off.ensures.more) c.problem.ensures.problem in
    let n = left_inside c.args.trail.now.problem p c.args.trail.now.entries c.args.cell c.args.value c.requires.stands in
    subst (λ (P : Network). c.args.cell < P.cells) (sym c.loop-other.invariant.same) n.0

pub loop-other-preserved : goal.loop-other-preserved
loop-other-preserved c = elim c.if-stands_beside.branch [
  | then-stands_beside w ↦
      rw w.trail-is (cutting_taken c.args.trail.now c.loop-other.trail _ c.args.cell c.args.value c.loop-other.other _ c.loop-other.invariant c.stands_beside.ensures.value w.if-stands_beside.true w.remove.ensures.more)
  | else-stands_beside w ↦
      rw w.trail-is (cutting_skipped c.args.trail.now c.loop-other.trail c.args.cell c.args.value c.loop-other.other _ c.loop-other.invariant c.stands_beside.ensures.value w.if-stands_beside.false)
]

pub returns : goal.returns
returns c =
    let p = subst IsProblem (ap (λ t. t.problem) c.put_off.ensures.more) c.problem.ensures.problem in
    let whole = c.values-other-end.ensures.value ∙ ap values (c.problem.ensures.value ∙ ap (λ t. t.problem) c.put_off.ensures.more) in
    record { branches = cutting_ends c.args.trail.now c.loop-other.trail c.args.cell c.args.value c.loop-other.other p (omega (arith, whole, c.loop-other-test.false)) c.loop-other.invariant }
