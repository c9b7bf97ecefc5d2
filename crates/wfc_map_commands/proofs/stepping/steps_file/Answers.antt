use Rattle.std.proofs.Common.{List}
use Rattle.std.proofs.lemmas.Result.{err_from_is_err_and}
use Rattle.wfc_map_commands.proofs.stepping.steps_file.Goals as goal
use Rattle.wfc_map_commands.specs.Stepping.{fitting_steps, steps_in}
use Rattle.wfc_pins.specs.declared.steps.StepLine.{StepLine}
use Rattle.wfc_plan.proofs.CallerLemmas.{goes_on, seen_refusal, step_out}
use Rattle.wfc_plan.specs.Files.{file_plan}
use Rattle.wfc_plan.specs.Plan.{and_then, step}
use Rattle.wfc_plan.specs.declared.fault.Source.TheVariants.{Steps}

pub returns-in_err-steps-clause-goes : goal.returns-in_err-steps-clause-goes
returns-in_err-steps-clause-goes g c =
    let p = err_from_is_err_and c.from_residual-in_err-steps.result c.from_residual-in_err-steps.ensures.1 in
    let P = c.args.problem.now in
    rw (p.1, p.2) (goes_on (file_plan Steps c.args.name.now) (λ bytes. and_then (step (steps_in bytes)) (λ (steps : List StepLine). step (fitting_steps P steps))) _ _ _ _ _ c.in_ok-bytes.ensures.goes
    (step_out (steps_in c.in_ok-bytes.bytes.items) (λ (steps : List StepLine). step (fitting_steps P steps)) _ _ (seen_refusal _ _ (rw c.deref.ensures.value at c.in_err-steps.ensures.exact))))
