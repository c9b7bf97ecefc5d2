use Rattle.std.proofs.lemmas.Result.{err_from_is_err_and}
use Rattle.wfc_plan.proofs.CallerLemmas.{seen_refusal, then_step}
use Rattle.wfc_plan.specs.Files.{file_plan}
use Rattle.wfc_plan.specs.declared.fault.Source.TheVariants.{Pins}
use Rattle.wfc_task.proofs.files.pins_file.Goals as goal
use Rattle.wfc_task.specs.Steps.{read_pin_lines}

pub returns-in_err-lines : goal.returns-in_err-lines
returns-in_err-lines g c =
    let p = err_from_is_err_and c.from_residual-in_err-lines.result c.from_residual-in_err-lines.ensures.1 in
    record { goes = rw (p.1, p.2) (then_step (file_plan Pins c.args.name.now) read_pin_lines _ _ _ _ c.in_ok-bytes.ensures.goes (seen_refusal _ _ (rw c.deref.ensures.value at c.in_err-lines.ensures.exact))) }
