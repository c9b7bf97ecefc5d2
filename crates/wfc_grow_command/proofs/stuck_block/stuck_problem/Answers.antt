use Rattle.std.proofs.Common.{Err, Ok, Result, subst}
use Rattle.std.proofs.lemmas.Result.{err_from_is_err_and}
use Rattle.wfc_blocks.specs.Blocks.{output_of_block}
use Rattle.wfc_blocks.specs.StuckView.{StuckView}
use Rattle.wfc_grow_command.proofs.StuckProblemLemmas.{step_fails, step_gives}
use Rattle.wfc_grow_command.proofs.stuck_block.stuck_problem.Goals as goal
use Rattle.wfc_overlap.specs.Built.{picture_problem}
use Rattle.wfc_plan.proofs.CallerLemmas.{IsStepEnd}
use Rattle.wfc_plan.specs.Plan.{or_refuse}
use Rattle.wfc_plan.specs.declared.fault.Refusal.{Refusal}
use Rattle.wfc_plan.specs.declared.fault.Refusal.TheVariants.{Build}
use Rattle.wfc_problem.specs.Network.{Network}

pub returns-in_err-problem : goal.returns-in_err-problem
returns-in_err-problem c =
    let p = err_from_is_err_and c.from_residual.result c.from_residual.ensures.1 in
    let taught = c.args.growing.now.taught in
    let end : Result Network Refusal = Err c.in_err-problem.field-0.0 in
    let given = subst (λ (s : StuckView). IsStepEnd (or_refuse Build (picture_problem taught.patterns taught.palette (output_of_block s.block) s.pins)) end) c.stuck.view_is (rw c.deref.ensures.value at c.in_err-problem.ensures.exact) in
    record { exact = rw (p.1, p.2) (step_fails _ c.in_err-problem.field-0.0 given) }

pub returns : goal.returns
returns c =
    let taught = c.args.growing.now.taught in
    let end : Result Network Refusal = Ok c.in_ok-problem.problem in
    let given = subst (λ (s : StuckView). IsStepEnd (or_refuse Build (picture_problem taught.patterns taught.palette (output_of_block s.block) s.pins)) end) c.stuck.view_is (rw c.deref.ensures.value at c.in_ok-problem.ensures.exact) in
    record { exact = step_gives _ c.in_ok-problem.problem given }
