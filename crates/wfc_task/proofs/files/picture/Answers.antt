use Rattle.std.proofs.lemmas.Result.{err_from_is_err_and}
use Rattle.wfc_plan.proofs.CallerLemmas.{goes_done, goes_on, goes_out, step_on, step_out}
use Rattle.wfc_task.proofs.TaskLemmas.{behind_sampled}
use Rattle.wfc_task.proofs.files.picture.Goals as goal
use Rattle.wfc_task.specs.SamplePlans.{sampled_plan}
use Rattle.wfc_task.specs.Sampled.{sampled_view}
use Rattle.wfc_task.specs.Steps.{sample_in_numbers}

pub returns-in_err-sampled-clause-goes : goal.returns-in_err-sampled-clause-goes
returns-in_err-sampled-clause-goes g c =
    let p = err_from_is_err_and c.from_residual.result c.from_residual.ensures.1 in
    rw (p.1, p.2) (goes_out (sampled_plan c.args.request.now) behind_sampled _ _ _ c.in_err-sampled.ensures.goes)

pub returns-in_err-picture-clause-goes : goal.returns-in_err-picture-clause-goes
returns-in_err-picture-clause-goes g c =
    let p = err_from_is_err_and c.from_residual-in_err-picture.result c.from_residual-in_err-picture.ensures.1 in
    rw (p.1, p.2) (goes_on (sampled_plan c.args.request.now) behind_sampled _ _ _ _ _ c.in_ok-sampled.ensures.goes (step_out (sample_in_numbers (sampled_view c.in_ok-sampled.sampled)) _ _ _ c.in_err-picture.ensures.exact))

pub returns-clause-goes : goal.returns-clause-goes
returns-clause-goes g c =
    goes_on (sampled_plan c.args.request.now) behind_sampled _ _ _ _ _ c.in_ok-sampled.ensures.goes (step_on (sample_in_numbers (sampled_view c.in_ok-sampled.sampled)) _ _ _ _ _ c.in_ok-picture.ensures.exact goes_done)
