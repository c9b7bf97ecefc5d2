use Rattle.std.proofs.Common.{Err, List, Ok, [], length, refl, ◌∙◌, ◌∷◌, ◌≡◌}
use Rattle.std.specs.Prelude.{codes}
use Rattle.wfc_choose.specs.declared.RuleKind.TheVariants.{Fewest}
use Rattle.wfc_map_commands.proofs.FillGivenLemmas.{behind_set, behind_tile_layout, fill_made_tiles}
use Rattle.wfc_map_commands.proofs.order.first_of_several_faults_of_tiles.Goals as goal
use Rattle.wfc_map_commands.specs.FillTask.{fill_plan}
use Rattle.wfc_map_commands.specs.Small.{pictured_asked}
use Rattle.wfc_outside.specs.Folder.{File}
use Rattle.wfc_outside.specs.declared.whole.ReadFault.TheVariants.{Missing}
use Rattle.wfc_plan.proofs.CallerLemmas.{given_file, ok_refused, ok_step, outcome_on, outcome_out}
use Rattle.wfc_plan.specs.Files.{file_plan}
use Rattle.wfc_plan.specs.Plan.{outcome, step}
use Rattle.wfc_plan.specs.declared.fault.Fault.{Fault}
use Rattle.wfc_plan.specs.declared.fault.Fault.TheVariants.{Refused, Unread}
use Rattle.wfc_plan.specs.declared.fault.Refusal.TheVariants as refusals
use Rattle.wfc_plan.specs.declared.fault.Source.TheVariants.{Picture, Sample}
use Rattle.wfc_render.specs.Layout.{layout_of}
use Rattle.wfc_render.specs.declared.form.RenderFault.TheVariants.{FormDiffers}
use Rattle.wfc_task.proofs.CallerLemmas.{given_tiles}
use Rattle.wfc_task.specs.Small.{IsLaid, tiles_asked}
use Rattle.wfc_task.specs.TilePlans.{document_plan, next_plan, pictures_plan, tiled_plan, tiles_plan}
use Rattle.wfc_task.specs.TileSteps.{document_in, tile_layout}
use Rattle.wfc_tileset.specs.Document.{set_of, set_with}
use Rattle.wfc_tileset.specs.Pictures.{kind_of, side_of}
use Rattle.wfc_tileset.specs.Tiles.{TileSetView}

-- behind a tile set and its layout the fault is that of the pins, the mask and the problem
behind_layout : (files : List File) (set : TileSetView) (laid : IsLaid tiles_asked files set) (fault : Fault) → outcome (tiled_plan tiles_asked set) files ≡ Err fault
    → outcome (fill_plan (Fewest ∷ []) tiles_asked) files ≡ Err fault
behind_layout files set laid fault is =
    outcome_on (tiles_plan tiles_asked) (behind_set tiles_asked) files set (given_tiles tiles_asked files set laid.tiles)
    ∙ outcome_on (step (tile_layout set tiles_asked)) (behind_tile_layout tiles_asked set) files laid.layout
    (ok_step (tile_layout set tiles_asked) files laid.layout
    (ok_refused refusals.Render (layout_of (kind_of set.pictures) tiles_asked.form tiles_asked.width tiles_asked.height (side_of set.pictures)) laid.layout laid.written))
    ∙ outcome_out (tiled_plan tiles_asked set) (fill_made_tiles set laid.layout) files fault is

pub returns-clause-pins_and_mask : goal.returns-clause-pins_and_mask
returns-clause-pins_and_mask c = λ files set laid beside. behind_layout files set laid _ (rw beside.pins_file refl)

pub returns-clause-lines_and_mask : goal.returns-clause-lines_and_mask
returns-clause-lines_and_mask c = λ files set laid beside. behind_layout files set laid _ (rw beside.pins_file refl)

pub returns-clause-mask_and_pin : goal.returns-clause-mask_and_pin
returns-clause-mask_and_pin c = λ files set laid beside. behind_layout files set laid _ (rw (beside.pins_file, beside.mask_file) refl)

pub returns-clause-picture_and_layout : goal.returns-clause-picture_and_layout
returns-clause-picture_and_layout c = λ files lacks.
    let document : TileSetView = set_with (lacks.first ∷ lacks.others) lacks.pairs in
    let read : outcome (document_plan pictured_asked) files ≡ Ok document =
    outcome_on (file_plan Sample (codes "a")) (λ bytes. step (document_in bytes)) files lacks.bytes (given_file Sample (codes "a") files lacks.bytes lacks.file)
    ∙ ok_step (document_in lacks.bytes) files document (ok_refused refusals.Tiles (set_of lacks.bytes) document lacks.spelled) in
    let picture : outcome (next_plan document) files ≡ Err (Unread (Picture 0) Missing) = rw (lacks.named, lacks.lacking) refl in
    outcome_out (tiles_plan pictured_asked) (behind_set pictured_asked) files (Unread (Picture 0) Missing)
    (outcome_on (document_plan pictured_asked) (λ (set : TileSetView). pictures_plan (length set.tiles) set) files document read
    ∙ outcome_out (next_plan document) (λ set. pictures_plan (length lacks.others) set) files (Unread (Picture 0) Missing) picture)

pub returns-clause-layout_and_pins : goal.returns-clause-layout_and_pins
returns-clause-layout_and_pins c = λ files set tiles plain beside.
    outcome_on (tiles_plan pictured_asked) (behind_set pictured_asked) files set (given_tiles pictured_asked files set tiles)
    ∙ outcome_out (step (tile_layout set pictured_asked)) (behind_tile_layout pictured_asked set) files (Refused (refusals.Render FormDiffers)) (rw plain refl)
