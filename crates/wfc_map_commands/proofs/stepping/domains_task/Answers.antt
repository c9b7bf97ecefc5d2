use Rattle.std.proofs.Common.{List}
use Rattle.std.proofs.lemmas.Result.{err_from_is_err_and}
use Rattle.wfc_map_commands.proofs.DomainsGivenLemmas.{behind_problem}
use Rattle.wfc_map_commands.proofs.stepping.domains_task.Goals as goal
use Rattle.wfc_map_commands.specs.DomainsTask.{DomainsTask, domains}
use Rattle.wfc_map_commands.specs.StepPlans.{steps_plan}
use Rattle.wfc_pins.specs.declared.steps.StepLine.{StepLine}
use Rattle.wfc_plan.proofs.CallerLemmas.{goes_done, goes_on, goes_out}
use Rattle.wfc_plan.specs.Plan.{Plan, done}
use Rattle.wfc_task.specs.Posed.{posed_plan}

pub returns-in_err-problem-clause-goes : goal.returns-in_err-problem-clause-goes
returns-in_err-problem-clause-goes g c =
    let p = err_from_is_err_and c.from_residual.result c.from_residual.ensures.1 in
    let asked = c.args.request.now in
    rw (p.1, p.2) (goes_out (posed_plan asked) (behind_problem asked) _ _ _ c.in_err-problem.ensures.goes)

pub returns-in_err-steps-clause-goes : goal.returns-in_err-steps-clause-goes
returns-in_err-steps-clause-goes g c =
    let p = err_from_is_err_and c.from_residual-in_err-steps.result c.from_residual-in_err-steps.ensures.1 in
    let asked = c.args.request.now in
    let P = c.in_ok-problem.problem in
    rw (p.1, p.2) (goes_on (posed_plan asked) (behind_problem asked) _ _ _ _ _ c.in_ok-problem.ensures.goes
    (goes_out (steps_plan asked.steps P) (λ (steps : List StepLine). let end : Plan DomainsTask = done (domains P steps) in end) _ _ _ (rw c.steps.ensures.value at c.in_err-steps.ensures.goes)))

pub returns-clause-goes : goal.returns-clause-goes
returns-clause-goes g c =
    let asked = c.args.request.now in
    let P = c.in_ok-problem.problem in
    goes_on (posed_plan asked) (behind_problem asked) _ _ _ _ _ c.in_ok-problem.ensures.goes
    (goes_on (steps_plan asked.steps P) (λ (steps : List StepLine). let end : Plan DomainsTask = done (domains P steps) in end) _ _ _ _ _ (rw c.steps.ensures.value at c.in_ok-steps.ensures.goes) goes_done)
