use Rattle.std.proofs.lemmas.Result.{err_from_is_err_and}
use Rattle.wfc_box_commands.proofs.files.asked_problem.Goals as goal
use Rattle.wfc_box_commands.specs.BoxPlans.{box_problem_plan, stacked_plan}
use Rattle.wfc_plan.proofs.CallerLemmas.{goes_on, goes_out}

pub returns-in_err-tiles : goal.returns-in_err-tiles
returns-in_err-tiles g c =
    let p = err_from_is_err_and c.from_residual.result c.from_residual.ensures.1 in
    let asked = c.args.request.now in
    record { goes = rw (p.1, p.2) (goes_out (stacked_plan asked) (box_problem_plan asked) _ _ _ c.in_err-tiles.ensures.goes) }

pub returns-in_err-problem : goal.returns-in_err-problem
returns-in_err-problem g c =
    let p = err_from_is_err_and c.from_residual-in_err-problem.result c.from_residual-in_err-problem.ensures.1 in
    let asked = c.args.request.now in
    record { goes = rw (p.1, p.2) (goes_on (stacked_plan asked) (box_problem_plan asked) _ _ _ _ _ c.in_ok-tiles.ensures.goes c.in_err-problem.ensures.goes) }

pub returns : goal.returns
returns g c =
    let asked = c.args.request.now in
    record { goes = goes_on (stacked_plan asked) (box_problem_plan asked) _ _ _ _ _ c.in_ok-tiles.ensures.goes c.in_ok-problem.ensures.goes }
