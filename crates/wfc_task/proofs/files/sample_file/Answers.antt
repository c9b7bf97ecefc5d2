use Rattle.std.proofs.lemmas.Result.{err_from_is_err_and}
use Rattle.wfc_plan.proofs.CallerLemmas.{goes_out, seen_refusal, seen_value, then_step}
use Rattle.wfc_plan.specs.Files.{file_plan}
use Rattle.wfc_plan.specs.Plan.{step}
use Rattle.wfc_plan.specs.declared.fault.Source.TheVariants.{Sample}
use Rattle.wfc_task.proofs.files.sample_file.Goals as goal
use Rattle.wfc_task.specs.Steps.{sampled_in}

pub returns-in_err-bytes-clause-goes : goal.returns-in_err-bytes-clause-goes
returns-in_err-bytes-clause-goes g c =
    let p = err_from_is_err_and c.from_residual.result c.from_residual.ensures.1 in
    rw (p.1, p.2) (goes_out (file_plan Sample c.args.request.now.file) (λ bytes. step (sampled_in c.args.request.now bytes)) _ _ _ (rw c.file.ensures.value at c.in_err-bytes.ensures.goes))

pub returns-in_err-sampled-clause-goes : goal.returns-in_err-sampled-clause-goes
returns-in_err-sampled-clause-goes g c =
    let p = err_from_is_err_and c.from_residual-in_err-sampled.result c.from_residual-in_err-sampled.ensures.1 in
    rw (p.1, p.2) (then_step (file_plan Sample c.args.request.now.file) (sampled_in c.args.request.now) _ _ _ _ (rw c.file.ensures.value at c.in_ok-bytes.ensures.goes) (seen_refusal _ _ (rw c.deref.ensures.value at c.in_err-sampled.ensures.exact)))

pub returns-clause-goes : goal.returns-clause-goes
returns-clause-goes g c =
    then_step (file_plan Sample c.args.request.now.file) (sampled_in c.args.request.now) _ _ _ _ (rw c.file.ensures.value at c.in_ok-bytes.ensures.goes) (seen_value _ _ _ (rw c.deref.ensures.value at c.in_ok-sampled.ensures.exact))
