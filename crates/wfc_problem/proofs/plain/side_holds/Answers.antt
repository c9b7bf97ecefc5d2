-- A support is a value.
use Rattle.wfc_problem.proofs.Supports.{support_in}
use Rattle.wfc_problem.proofs.plain.side_holds.Goals as goal

pub any_stands-requires-clause-wanted : goal.any_stands-requires-clause-wanted
any_stands-requires-clause-wanted c = λ k d l.
    rw c.values.ensures.value
    (support_in c.args.problem.now c.supports.ensures.problem.indexed c.args.value c.args.dir c.supports.result.now c.supports.ensures.value k d l)
