use Rattle.std.proofs.Common.{inl}
use Rattle.std.proofs.lemmas.Result.{err_from_is_err_and}
use Rattle.wfc_map_commands.proofs.FillGivenLemmas.{behind_layout, behind_sample}
use Rattle.wfc_map_commands.proofs.filling.sample_filling.Goals as goal
use Rattle.wfc_map_commands.specs.FillTask.{FillTask, fill}
use Rattle.wfc_plan.proofs.CallerLemmas.{goes_done, goes_on, goes_out, step_on, step_out}
use Rattle.wfc_plan.specs.Plan.{Plan, done}
use Rattle.wfc_problem.specs.Network.{Network}
use Rattle.wfc_task.specs.SamplePlans.{problem_plan, sample_plan}
use Rattle.wfc_task.specs.Steps.{sample_layout}

pub returns-in_err-taught-clause-goes : goal.returns-in_err-taught-clause-goes
returns-in_err-taught-clause-goes g c =
    let p = err_from_is_err_and c.from_residual.result c.from_residual.ensures.1 in
    let asked = c.args.request.now in
    rw (p.1, p.2) (goes_out (sample_plan asked) (behind_sample asked) _ _ _ c.in_err-taught.ensures.goes)

pub returns-in_err-layout-clause-goes : goal.returns-in_err-layout-clause-goes
returns-in_err-layout-clause-goes g c =
    let p = err_from_is_err_and c.from_residual-in_err-layout.result c.from_residual-in_err-layout.ensures.1 in
    let asked = c.args.request.now in
    rw (p.1, p.2) (goes_on (sample_plan asked) (behind_sample asked) _ _ _ _ _ c.in_ok-taught.ensures.goes
    (step_out (sample_layout c.in_ok-taught.taught.kind asked) (behind_layout asked c.in_ok-taught.taught) _ _ (inl c.in_err-layout.ensures.exact)))

pub returns-in_err-problem-clause-goes : goal.returns-in_err-problem-clause-goes
returns-in_err-problem-clause-goes g c =
    let p = err_from_is_err_and c.from_residual-in_err-problem.result c.from_residual-in_err-problem.ensures.1 in
    let asked = c.args.request.now in
    let lesson = c.in_ok-taught.taught in
    rw (p.1, p.2) (goes_on (sample_plan asked) (behind_sample asked) _ _ _ _ _ c.in_ok-taught.ensures.goes
    (step_on (sample_layout lesson.kind asked) (behind_layout asked lesson) _ _ _ _ (inl c.in_ok-layout.ensures.exact)
    (goes_out (problem_plan asked lesson) (λ (P : Network). let end : Plan FillTask = done (fill lesson.patterns lesson.palette c.in_ok-layout.layout P) in end) _ _ _ c.in_err-problem.ensures.goes)))

pub returns-clause-goes : goal.returns-clause-goes
returns-clause-goes g c =
    let asked = c.args.request.now in
    let lesson = c.in_ok-taught.taught in
    goes_on (sample_plan asked) (behind_sample asked) _ _ _ _ _ c.in_ok-taught.ensures.goes
    (step_on (sample_layout lesson.kind asked) (behind_layout asked lesson) _ _ _ _ (inl c.in_ok-layout.ensures.exact)
    (goes_on (problem_plan asked lesson) (λ (P : Network). let end : Plan FillTask = done (fill lesson.patterns lesson.palette c.in_ok-layout.layout P) in end) _ _ _ _ _ c.in_ok-problem.ensures.goes goes_done))
