use Rattle.std.proofs.Common.{length}
use Rattle.std.proofs.lemmas.Result.{err_from_is_err_and}
use Rattle.wfc_box_commands.proofs.BoxPlanLemmas.{behind_bytes, behind_document, behind_pictures, behind_stacked}
use Rattle.wfc_box_commands.proofs.BoxTextLemmas.{set_pictured}
use Rattle.wfc_box_commands.proofs.files.stacked_set.Goals as goal
use Rattle.wfc_box_commands.specs.BoxSteps.{stacked_in}
use Rattle.wfc_plan.proofs.CallerLemmas.{goes_done, goes_on, goes_out, step_on, step_out}
use Rattle.wfc_plan.specs.Files.{file_plan}
use Rattle.wfc_plan.specs.declared.fault.Source.TheVariants.{Sample}
use Rattle.wfc_task.specs.TilePlans.{pictures_plan}
use Rattle.wfc_task.specs.TileSteps.{document_in}

pub returns-in_err-bytes-clause-goes : goal.returns-in_err-bytes-clause-goes
returns-in_err-bytes-clause-goes g c =
    let p = err_from_is_err_and c.from_residual.result c.from_residual.ensures.1 in
    rw (p.1, p.2) (goes_out (file_plan Sample c.args.request.now.file) behind_bytes _ _ _ (rw c.file.ensures.value at c.in_err-bytes.ensures.goes))

pub returns-in_err-tiles-clause-goes : goal.returns-in_err-tiles-clause-goes
returns-in_err-tiles-clause-goes g c =
    let p = err_from_is_err_and c.from_residual-in_err-tiles.result c.from_residual-in_err-tiles.ensures.1 in
    let bytes = c.in_ok-bytes.bytes.items in
    rw (p.1, p.2) (goes_on (file_plan Sample c.args.request.now.file) behind_bytes _ _ _ _ _ (rw c.file.ensures.value at c.in_ok-bytes.ensures.goes)
    (step_out (document_in bytes) (behind_document bytes) _ _ (rw c.deref.ensures.value at c.in_err-tiles.ensures.exact)))

pub returns-in_err-pictures-clause-goes : goal.returns-in_err-pictures-clause-goes
returns-in_err-pictures-clause-goes g c =
    let p = err_from_is_err_and c.from_residual-in_err-pictures.result c.from_residual-in_err-pictures.ensures.1 in
    let bytes = c.in_ok-bytes.bytes.items in
    let document = c.in_ok-tiles.tiles in
    rw (p.1, p.2) (goes_on (file_plan Sample c.args.request.now.file) behind_bytes _ _ _ _ _ (rw c.file.ensures.value at c.in_ok-bytes.ensures.goes)
    (step_on (document_in bytes) (behind_document bytes) _ _ _ _ (rw c.deref.ensures.value at c.in_ok-tiles.ensures.exact)
    (goes_out (pictures_plan (length document.tiles) document) (behind_pictures bytes) _ _ _ c.in_err-pictures.ensures.goes)))

pub returns-in_err-stacks-clause-goes : goal.returns-in_err-stacks-clause-goes
returns-in_err-stacks-clause-goes g c =
    let p = err_from_is_err_and c.from_residual-in_err-stacks.result c.from_residual-in_err-stacks.ensures.1 in
    let bytes = c.in_ok-bytes.bytes.items in
    let document = c.in_ok-tiles.tiles in
    rw (p.1, p.2) (goes_on (file_plan Sample c.args.request.now.file) behind_bytes _ _ _ _ _ (rw c.file.ensures.value at c.in_ok-bytes.ensures.goes)
    (step_on (document_in bytes) (behind_document bytes) _ _ _ _ (rw c.deref.ensures.value at c.in_ok-tiles.ensures.exact)
    (goes_on (pictures_plan (length document.tiles) document) (behind_pictures bytes) _ _ _ _ _ c.in_ok-pictures.ensures.goes
    (step_out (stacked_in c.pictures.new.tiles bytes) (behind_stacked c.pictures.new.tiles) _ _ (rw c.deref-2.ensures.value at c.in_err-stacks.ensures.exact)))))

pub returns-clause-goes : goal.returns-clause-goes
returns-clause-goes g c =
    let bytes = c.in_ok-bytes.bytes.items in
    let document = c.in_ok-tiles.tiles in
    goes_on (file_plan Sample c.args.request.now.file) behind_bytes _ _ _ _ _ (rw c.file.ensures.value at c.in_ok-bytes.ensures.goes)
    (step_on (document_in bytes) (behind_document bytes) _ _ _ _ (rw c.deref.ensures.value at c.in_ok-tiles.ensures.exact)
    (goes_on (pictures_plan (length document.tiles) document) (behind_pictures bytes) _ _ _ _ _ c.in_ok-pictures.ensures.goes
    (step_on (stacked_in c.pictures.new.tiles bytes) (behind_stacked c.pictures.new.tiles) _ _ _ _ (rw c.deref-2.ensures.value at c.in_ok-stacks.ensures.exact) goes_done)))

pub returns-clause-pictured : goal.returns-clause-pictured
returns-clause-pictured g c = set_pictured c.in_ok-tiles.tiles _ _ _ c.in_ok-pictures.ensures.goes
