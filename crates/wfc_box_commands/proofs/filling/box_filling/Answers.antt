use Rattle.std.proofs.Common.{inl, sym}
use Rattle.std.proofs.lemmas.Result.{err_from_is_err_and}
use Rattle.wfc_box_commands.proofs.BoxPlanLemmas.{behind_box_layout, behind_box_problem, behind_stacked_set}
use Rattle.wfc_box_commands.proofs.filling.box_filling.Goals as goal
use Rattle.wfc_box_commands.specs.BoxPlans.{box_problem_plan, stacked_plan}
use Rattle.wfc_box_commands.specs.BoxSteps.{box_form}
use Rattle.wfc_plan.proofs.CallerLemmas.{goes_done, goes_on, goes_out, step_on, step_out}

pub returns-in_err-tiles-clause-goes : goal.returns-in_err-tiles-clause-goes
returns-in_err-tiles-clause-goes g c =
    let p = err_from_is_err_and c.from_residual.result c.from_residual.ensures.1 in
    let asked = c.args.request.now in
    rw (p.1, p.2) (goes_out (stacked_plan asked) (behind_stacked_set asked) _ _ _ c.in_err-tiles.ensures.goes)

pub returns-in_err-form-clause-goes : goal.returns-in_err-form-clause-goes
returns-in_err-form-clause-goes g c =
    let p = err_from_is_err_and c.from_residual-in_err-form.result c.from_residual-in_err-form.ensures.1 in
    let asked = c.args.request.now in
    let set = c.in_ok-tiles.tiles in
    rw (p.1, p.2) (goes_on (stacked_plan asked) (behind_stacked_set asked) _ _ _ _ _ c.in_ok-tiles.ensures.goes
    (step_out (box_form set asked) (behind_box_layout asked (set, c.in_ok-tiles.stacks)) _ _ (inl c.in_err-form.ensures.exact)))

pub returns-in_err-problem-clause-goes : goal.returns-in_err-problem-clause-goes
returns-in_err-problem-clause-goes g c =
    let p = err_from_is_err_and c.from_residual-in_err-problem.result c.from_residual-in_err-problem.ensures.1 in
    let asked = c.args.request.now in
    let set = c.in_ok-tiles.tiles in
    let stacked = c.in_ok-tiles.stacks in
    rw (p.1, p.2) (goes_on (stacked_plan asked) (behind_stacked_set asked) _ _ _ _ _ c.in_ok-tiles.ensures.goes
    (step_on (box_form set asked) (behind_box_layout asked (set, stacked)) _ _ _ _ (inl c.in_ok-form.ensures.exact)
    (goes_out (box_problem_plan asked (set, stacked)) (behind_box_problem (set, stacked) c.in_ok-form.form) _ _ _ c.in_err-problem.ensures.goes)))

pub returns-clause-goes : goal.returns-clause-goes
returns-clause-goes g c =
    let asked = c.args.request.now in
    let set = c.in_ok-tiles.tiles in
    let stacked = c.in_ok-tiles.stacks in
    goes_on (stacked_plan asked) (behind_stacked_set asked) _ _ _ _ _ c.in_ok-tiles.ensures.goes
    (step_on (box_form set asked) (behind_box_layout asked (set, stacked)) _ _ _ _ (inl c.in_ok-form.ensures.exact)
    (goes_on (box_problem_plan asked (set, stacked)) (behind_box_problem (set, stacked) c.in_ok-form.form) _ _ _ _ _ c.in_ok-problem.ensures.goes goes_done))

pub returns-clause-filling : goal.returns-clause-filling
returns-clause-filling g c = record { layout = sym c.in_ok-form.ensures.exact; boxed = c.in_ok-problem.ensures.boxed; pictured = c.in_ok-tiles.ensures.pictured }
