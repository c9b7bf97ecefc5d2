use Rattle.std.proofs.lemmas.Result.{err_from_is_err_and}
use Rattle.wfc_box_commands.proofs.files.box_problem.Goals as goal
use Rattle.wfc_box_commands.specs.BoxPlans.{box_pins_plan}
use Rattle.wfc_box_commands.specs.BoxSteps.{posed_box}
use Rattle.wfc_plan.proofs.CallerLemmas.{then_step}

pub returns-in_err-problem-clause-goes : goal.returns-in_err-problem-clause-goes
returns-in_err-problem-clause-goes g c =
    let p = err_from_is_err_and c.from_residual-in_err-problem.result c.from_residual-in_err-problem.ensures.1 in
    let asked = c.args.request.now in
    rw (p.1, p.2) (then_step (box_pins_plan asked.pins) (posed_box asked c.args.tiles.now c.args.stacks.now) _ _ _ _ (rw c.pins.ensures.value at c.in_ok-lines.ensures.goes) (rw c.deref.ensures.value at c.in_err-problem.ensures.exact))
