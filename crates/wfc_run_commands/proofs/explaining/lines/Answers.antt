use Rattle.std.proofs.Common.{inl}
use Rattle.std.proofs.lemmas.Result.{err_from_is_err_and}
use Rattle.wfc_plan.proofs.CallerLemmas.{goes_done, goes_on, goes_out, step_on, step_out}
use Rattle.wfc_plan.specs.Plan.{done}
use Rattle.wfc_run_commands.proofs.ExplainGivenLemmas.{behind_read}
use Rattle.wfc_run_commands.proofs.explaining.lines.Goals as goal
use Rattle.wfc_run_commands.specs.ExplainTask.{few_lines}
use Rattle.wfc_task.specs.SamplePlans.{pins_plan}

pub returns-in_err-lines-clause-goes : goal.returns-in_err-lines-clause-goes
returns-in_err-lines-clause-goes g c =
    let p = err_from_is_err_and c.from_residual.result c.from_residual.ensures.1 in
    rw (p.1, p.2) (goes_out (pins_plan c.args.request.now.pins) behind_read _ _ _ (rw c.pins.ensures.value at c.in_err-lines.ensures.goes))

pub returns-in_err-few_lines-clause-goes : goal.returns-in_err-few_lines-clause-goes
returns-in_err-few_lines-clause-goes g c =
    let p = err_from_is_err_and c.from_residual-in_err-few_lines.result c.from_residual-in_err-few_lines.ensures.1 in
    rw (p.1, p.2) (goes_on (pins_plan c.args.request.now.pins) behind_read _ _ _ _ _ (rw c.pins.ensures.value at c.in_ok-lines.ensures.goes) (step_out (few_lines c.in_ok-lines.lines.items) (λ _. done c.in_ok-lines.lines.items) _ _ (inl (rw c.deref.ensures.value at c.in_err-few_lines.ensures.exact))))

pub returns-clause-goes : goal.returns-clause-goes
returns-clause-goes g c =
    goes_on (pins_plan c.args.request.now.pins) behind_read _ _ _ _ _ (rw c.pins.ensures.value at c.in_ok-lines.ensures.goes) (step_on (few_lines c.in_ok-lines.lines.items) (λ _. done c.in_ok-lines.lines.items) _ _ c.in_ok-few_lines.field-0 _ (inl (rw c.deref.ensures.value at c.in_ok-few_lines.ensures.exact)) goes_done)
