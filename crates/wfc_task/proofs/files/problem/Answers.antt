use Rattle.std.proofs.lemmas.Result.{err_from_is_err_and}
use Rattle.wfc_plan.proofs.CallerLemmas.{then_step}
use Rattle.wfc_task.proofs.files.problem.Goals as goal
use Rattle.wfc_task.specs.SamplePlans.{pins_plan}
use Rattle.wfc_task.specs.Steps.{problem_of_lines}

pub returns-in_err-problem-clause-goes : goal.returns-in_err-problem-clause-goes
returns-in_err-problem-clause-goes g c =
    let p = err_from_is_err_and c.from_residual-in_err-problem.result c.from_residual-in_err-problem.ensures.1 in
    let asked = c.args.request.now in
    rw (p.1, p.2) (then_step (pins_plan asked.pins) (problem_of_lines asked c.args.taught.now.patterns c.args.taught.now.palette) _ _ _ _ (rw c.pins.ensures.value at c.in_ok-lines.ensures.goes) (rw c.deref.ensures.value at c.in_err-problem.ensures.exact))
