use Rattle.std.proofs.lemmas.Result.{err_from_is_err_and}
use Rattle.wfc_task.proofs.tile_files.mask.Goals as goal

pub returns-in_err-mask_file-in-Some-clause-goes : goal.returns-in_err-mask_file-in-Some-clause-goes
returns-in_err-mask_file-in-Some-clause-goes g c =
    let p = err_from_is_err_and c.from_residual.result c.from_residual.ensures.1 in
    rw (p.1, p.2, ← c.in-Some.ensures.value) c.in_err-mask_file-in-Some.ensures.goes
