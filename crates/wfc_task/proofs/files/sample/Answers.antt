use Rattle.std.proofs.lemmas.Result.{err_from_is_err_and}
use Rattle.wfc_plan.proofs.CallerLemmas.{goes_done, goes_on, goes_out, step_is, step_on, step_out}
use Rattle.wfc_task.proofs.LessonLemmas.{lesson_of}
use Rattle.wfc_task.proofs.TaskLemmas.{behind_picture}
use Rattle.wfc_task.proofs.files.sample.Goals as goal
use Rattle.wfc_task.specs.SamplePlans.{picture_plan}
use Rattle.wfc_task.specs.Steps.{patterns_taught}

pub returns-in_err-kind-clause-goes : goal.returns-in_err-kind-clause-goes
returns-in_err-kind-clause-goes g c =
    let p = err_from_is_err_and c.from_residual.result c.from_residual.ensures.1 in
    rw (p.1, p.2) (goes_out (picture_plan c.args.request.now) (behind_picture c.args.request.now) _ _ _ c.in_err-kind.ensures.goes)

pub returns-in_err-patterns-clause-goes : goal.returns-in_err-patterns-clause-goes
returns-in_err-patterns-clause-goes g c =
    let p = err_from_is_err_and c.from_residual-in_err-patterns.result c.from_residual-in_err-patterns.ensures.1 in
    rw (p.1, p.2) (goes_on (picture_plan c.args.request.now) (behind_picture c.args.request.now) _ _ _ _ _ c.in_ok-kind.ensures.goes (step_out (patterns_taught c.args.request.now _) _ _ _ c.in_err-patterns.ensures.exact))

pub returns-clause-goes : goal.returns-clause-goes
returns-clause-goes g c = goes_on (picture_plan c.args.request.now) (behind_picture c.args.request.now) _ _ _ _ _ c.in_ok-kind.ensures.goes (step_on (patterns_taught c.args.request.now _) _ _ _ _ _ c.in_ok-patterns.ensures.exact goes_done)

pub returns-clause-lesson : goal.returns-clause-lesson
returns-clause-lesson g c =
    lesson_of c.args.request.now c.in_ok-kind.kind c.in_ok-kind.picture c.in_ok-kind.palette c.in_ok-patterns.patterns c.requires.sample c.in_ok-kind.ensures.numbered c.in_ok-kind.ensures.small
    (step_is (patterns_taught c.args.request.now c.in_ok-kind.picture) c.in_ok-patterns.patterns c.in_ok-patterns.ensures.exact)
