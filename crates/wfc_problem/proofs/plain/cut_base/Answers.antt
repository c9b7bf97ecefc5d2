-- Each flag is that of the next place, and the whole table is the cut base.
use Rattle.std.proofs.Common.{◌≡◌, ◌*◌, refl, arith}
use Rattle.wfc_problem.specs.Network.{values}
use Rattle.wfc_problem.proofs.Flags.{flags_are, tells_push}
use Rattle.wfc_problem.proofs.Rounds.{base_with_inside}
use Rattle.wfc_problem.proofs.plain.cut_base.Goals as goal

pub loop-place-preserved : goal.loop-place-preserved
loop-place-preserved c =
    let is = rw c.values-values.ensures.value at c.is_left.ensures.value in
    let long = c.loop-place.flags.ok.0 in
    record {
      so_many = omega (arith, c.in_ok-push.ensures.len);
      told = rw c.in_ok-push.ensures.items
          (tells_push _ _ c.loop-place.flags.items c.loop-place.place c.is_left.result c.values-values.ensures.problem.sized.some_value (omega arith) c.loop-place.invariant.told is);
    }

pub returns-clause-value : goal.returns-clause-value
returns-clause-value c =
    let long = c.loop-place.flags.ok.0 in
    let P = c.args.problem.now in
    let p = c.cells.ensures.problem in
    let end : c.cells.result * c.values-values.result ≡ P.cells * values P = rw (c.cells.ensures.value, c.values-values.ensures.value) refl in
    flags_are P _ c.loop-place.flags.items (omega (arith, end)) (base_with_inside P p c.args.literals.now) c.loop-place.invariant.told
