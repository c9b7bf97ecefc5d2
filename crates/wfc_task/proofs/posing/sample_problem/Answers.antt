use Rattle.std.proofs.lemmas.Result.{err_from_is_err_and}
use Rattle.wfc_plan.proofs.CallerLemmas.{goes_on, goes_out}
use Rattle.wfc_task.proofs.posing.sample_problem.Goals as goal
use Rattle.wfc_task.specs.SamplePlans.{problem_plan, sample_plan}

pub returns-in_err-taught : goal.returns-in_err-taught
returns-in_err-taught g c =
    let p = err_from_is_err_and c.from_residual.result c.from_residual.ensures.1 in
    let asked = c.args.request.now in
    record { goes = rw (p.1, p.2) (goes_out (sample_plan asked) (problem_plan asked) _ _ _ c.in_err-taught.ensures.goes) }

pub returns-in_err-problem : goal.returns-in_err-problem
returns-in_err-problem g c =
    let p = err_from_is_err_and c.from_residual-in_err-problem.result c.from_residual-in_err-problem.ensures.1 in
    let asked = c.args.request.now in
    record { goes = rw (p.1, p.2) (goes_on (sample_plan asked) (problem_plan asked) _ _ _ c.in_ok-taught.taught _ c.in_ok-taught.ensures.goes c.in_err-problem.ensures.goes) }

pub returns : goal.returns
returns g c =
    let asked = c.args.request.now in
    record { goes = goes_on (sample_plan asked) (problem_plan asked) _ _ _ c.in_ok-taught.taught _ c.in_ok-taught.ensures.goes c.in_ok-problem.ensures.goes }
