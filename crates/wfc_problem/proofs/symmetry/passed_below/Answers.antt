-- A support is a value, and there are few of them.
use Rattle.std.proofs.Common.{arith, ap, length, ◌<◌}
use Rattle.wfc_problem.proofs.Supports.{support_in, supports_few}
use Rattle.wfc_problem.proofs.symmetry.passed_below.Goals as goal

pub supports_back-requires-clause-other_in : goal.supports_back-requires-clause-other_in
supports_back-requires-clause-other_in c =
    support_in c.args.parts.now c.requires.indexed c.args.value c.args.dir c.supports-list.result.now c.supports-list.ensures.value c.loop-at.at 0 c.loop-at-test.true

pub overflow_add-at : goal.overflow_add-at
overflow_add-at c =
    let few = supports_few c.args.parts.now c.requires.sized c.requires.indexed c.args.value c.args.dir in
    let l : c.loop-at.at < length c.supports-list.result.now = c.loop-at-test.true in
    omega (arith, ap length c.supports-list.ensures.value)
