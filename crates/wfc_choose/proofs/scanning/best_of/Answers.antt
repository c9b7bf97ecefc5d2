use Rattle.std.proofs.Common.{◌≡◌, ℕ, length, subst, arith}
use Rattle.wfc_choose.specs.Pick.{IsBestBelow}
use Rattle.wfc_choose.proofs.PickLemmas.{best_picked}
use Rattle.wfc_choose.proofs.scanning.best_of.Goals as goal

pub returns : goal.returns
returns c =
    let all : c.loop-cell.cell ≡ length c.args.sizes.now = omega (arith, c.loop-cell.auto.cell-end, c.loop-cell-test.false) in
    record { exact = best_picked _ _ _ (subst (λ (n : ℕ). IsBestBelow (record { kind = c.args.kind; ranks = c.args.ranks.now }) c.args.sizes.now n c.loop-cell.best) all c.loop-cell.invariant) }
