-- What plans on tile sets come to over told files, in the subject's words.
use Rattle.std.proofs.Common.{Bool, List, None, Ok, Option, Result, Some, ap, arith, false, length, nat_lt, refl, subst, suc, sym, zero, ℕ, ◌∙◌, ◌≡◌, ◌≤◌}
use Rattle.std.proofs.lemmas.Bool.Decides.{nat_tests}
use Rattle.wfc_grid.proofs.CallerLemmas.{grid_read, read_grid}
use Rattle.wfc_grid.specs.Reading.{grid_of}
use Rattle.wfc_model.specs.Legal.{Pin}
use Rattle.wfc_outside.specs.Folder.{File}
use Rattle.wfc_pins.specs.PinView.{PinView}
use Rattle.wfc_pins.specs.declared.fault.BuildFault.{BuildFault}
use Rattle.wfc_plan.proofs.CallerLemmas.{done_is, file_given, given_file, ok_refused, ok_step, outcome_on, outcome_parts, step_ok, unrefused}
use Rattle.wfc_plan.specs.Files.{file_plan}
use Rattle.wfc_plan.specs.Plan.{Plan, done, outcome, step}
use Rattle.wfc_plan.specs.declared.fault.Fault.{Fault}
use Rattle.wfc_plan.specs.declared.fault.Refusal.TheVariants as refusals
use Rattle.wfc_plan.specs.declared.fault.Source.TheVariants.{Mask, Picture, Sample}
use Rattle.wfc_problem.specs.Network.{Network}
use Rattle.wfc_problem.specs.declared.TheConstants.{MAX_PAIRS}
use Rattle.wfc_task.proofs.GivenLemmas.{given_pins, pins_given}
use Rattle.wfc_task.proofs.TileTaskLemmas.{behind_mask, behind_mask_grid, behind_masked, behind_pins}
use Rattle.wfc_task.proofs.TilingLemmas.{tiles_built_is}
use Rattle.wfc_task.specs.SamplePlans.{pins_plan}
use Rattle.wfc_task.specs.Steps.{grid_in}
use Rattle.wfc_task.specs.TileGiven.{HoldsMask, HoldsPicture, HoldsPictures, IsTileProblemOf, IsTileSetOf}
use Rattle.wfc_task.specs.TilePlans.{document_plan, mask_plan_by, next_plan, tile_picture_plan, pictures_plan, tiled_plan, tiles_plan}
use Rattle.wfc_task.specs.TileSteps.{document_in, mask_in, with_next_picture, posed_tiles}
use Rattle.wfc_tiled.specs.Built.{tile_map_problem, tile_pair_count, tile_map_pins}
use Rattle.wfc_tiled.specs.Mask.{MaskView, mask_of, plain_mask}
use Rattle.wfc_tiled.specs.Tiles.{problem_of_tiles}
use Rattle.wfc_tileset.specs.Document.{set_of}
use Rattle.wfc_tileset.specs.Pictures.{picture_name, picture_taken}
use Rattle.wfc_tileset.specs.Tiles.{TileSetView}
use Rattle.wfc_words.specs.RequestView.{RequestView}

-- a value as the end of a plan
abbrev ended : {T : Type 0} → T → Result T Fault
ended value = Ok value

-- ---- pictures

pub picture_given : (files : List File) (name : Option (List ℕ)) (before after : TileSetView) → outcome (tile_picture_plan name before) files ≡ Ok after → HoldsPicture files name before after
picture_given files None before after is = done_is before after files is
picture_given files (Some name) before after is =
    let parts = outcome_parts (file_plan (Picture (length before.pictures)) name) (λ bytes. step (with_next_picture before bytes)) files after is in
    (parts.0, file_given (Picture (length before.pictures)) name files parts.0 parts.1, unrefused refusals.Tiles (picture_taken before parts.0) after (step_ok (with_next_picture before parts.0) files after parts.2))

pub given_picture : (files : List File) (name : Option (List ℕ)) (before after : TileSetView) → HoldsPicture files name before after → outcome (tile_picture_plan name before) files ≡ Ok after
given_picture files None before after holds = ap ended holds
given_picture files (Some name) before after holds =
    outcome_on (file_plan (Picture (length before.pictures)) name) (λ bytes. step (with_next_picture before bytes)) files holds.0 (given_file (Picture (length before.pictures)) name files holds.0 holds.1)
    ∙ ok_step (with_next_picture before holds.0) files after (ok_refused refusals.Tiles (picture_taken before holds.0) after holds.2)

pub pictures_given : (files : List File) (left : ℕ) (before after : TileSetView) → outcome (pictures_plan left before) files ≡ Ok after → HoldsPictures files left before after
pictures_given files zero before after is = done_is before after files is
pictures_given files (suc left) before after is =
    let parts = outcome_parts (next_plan before) (λ set. pictures_plan left set) files after is in
    (parts.0, picture_given files (picture_name before (length before.pictures)) before parts.0 parts.1, pictures_given files left parts.0 after parts.2)

pub given_pictures : (files : List File) (left : ℕ) (before after : TileSetView) → HoldsPictures files left before after → outcome (pictures_plan left before) files ≡ Ok after
given_pictures files zero before after holds = ap ended holds
given_pictures files (suc left) before after holds =
    outcome_on (next_plan before) (λ set. pictures_plan left set) files holds.0 (given_picture files (picture_name before (length before.pictures)) before holds.0 holds.1)
    ∙ given_pictures files left holds.0 after holds.2

-- ---- tile sets

pub tiles_given : (asked : RequestView) (files : List File) (set : TileSetView) → outcome (tiles_plan asked) files ≡ Ok set → IsTileSetOf asked files set
tiles_given asked files set is =
    let parts = outcome_parts (document_plan asked) (λ (set : TileSetView). pictures_plan (length set.tiles) set) files set is in
    let reads = outcome_parts (file_plan Sample asked.file) (λ bytes. step (document_in bytes)) files parts.0 parts.1 in
    record {
      bytes = reads.0;
      file = file_given Sample asked.file files reads.0 reads.1;
      document = parts.0;
      spelled = unrefused refusals.Tiles (set_of reads.0) parts.0 (step_ok (document_in reads.0) files parts.0 reads.2);
      pictures = pictures_given files (length parts.0.tiles) parts.0 set parts.2;
    }

pub given_tiles : (asked : RequestView) (files : List File) (set : TileSetView) → IsTileSetOf asked files set → outcome (tiles_plan asked) files ≡ Ok set
given_tiles asked files set of =
    outcome_on (document_plan asked) (λ (set : TileSetView). pictures_plan (length set.tiles) set) files of.document
    (outcome_on (file_plan Sample asked.file) (λ bytes. step (document_in bytes)) files of.bytes (given_file Sample asked.file files of.bytes of.file)
    ∙ ok_step (document_in of.bytes) files of.document (ok_refused refusals.Tiles (set_of of.bytes) of.document of.spelled))
    ∙ given_pictures files (length of.document.tiles) of.document set of.pictures

-- ---- masks

pub mask_given : (asked : RequestView) (files : List File) (name : Option (List ℕ)) (mask : MaskView) → outcome (mask_plan_by name asked) files ≡ Ok mask → HoldsMask asked files name mask
mask_given asked files None mask is = done_is (plain_mask asked.width asked.height) mask files is
mask_given asked files (Some name) mask is =
    let parts = outcome_parts (file_plan Mask name) (behind_mask asked) files mask is in
    let reads = outcome_parts (step (grid_in Mask parts.0)) (behind_mask_grid asked) files mask parts.2 in
    let grid = read_grid parts.0 reads.0 (unrefused (refusals.Grid Mask) (grid_of parts.0) reads.0 (step_ok (grid_in Mask parts.0) files reads.0 reads.1)) in
    record {
      bytes = parts.0;
      file = file_given Mask name files parts.0 parts.1;
      grid = reads.0;
      spelled = grid.0;
      small = grid.1;
      is_mask = unrefused refusals.Mask (mask_of reads.0 asked.width asked.height) mask (step_ok (mask_in asked reads.0) files mask reads.2);
    }

pub given_mask : (asked : RequestView) (files : List File) (name : Option (List ℕ)) (mask : MaskView) → HoldsMask asked files name mask → outcome (mask_plan_by name asked) files ≡ Ok mask
given_mask asked files None mask holds = ap ended holds
given_mask asked files (Some name) mask holds =
    outcome_on (file_plan Mask name) (behind_mask asked) files holds.bytes (given_file Mask name files holds.bytes holds.file)
    ∙ outcome_on (step (grid_in Mask holds.bytes)) (behind_mask_grid asked) files holds.grid
    (ok_step (grid_in Mask holds.bytes) files holds.grid (ok_refused (refusals.Grid Mask) (grid_of holds.bytes) holds.grid (grid_read holds.bytes holds.grid holds.spelled holds.small)))
    ∙ ok_step (mask_in asked holds.grid) files mask (ok_refused refusals.Mask (mask_of holds.grid asked.width asked.height) mask holds.is_mask)

-- ---- problems

pub tiled_given : (asked : RequestView) (files : List File) (set : TileSetView) (mask : MaskView) (P : Network) → outcome (tiled_plan asked set) files ≡ Ok (mask, P) → IsTileProblemOf asked files set mask P
tiled_given asked files set mask P is =
    let parts = outcome_parts (pins_plan asked.pins) (behind_pins asked set) files (mask, P) is in
    let masked = outcome_parts (mask_plan_by asked.mask asked) (behind_masked asked set parts.0) files (mask, P) parts.2 in
    let made = outcome_parts (step (posed_tiles asked set masked.0 parts.0)) (λ (P : Network). let end : Plan (MaskView × Network) = done (masked.0, P) in end) files (mask, P) masked.2 in
    let ends : (masked.0, made.0) ≡ (mask, P) = done_is (masked.0, made.0) (mask, P) files made.2 in
    let is_built = tiles_built_is set masked.0 asked.wrap_out parts.0 made.0 (unrefused refusals.Build (tile_map_problem set masked.0 asked.wrap_out parts.0) made.0 (step_ok (posed_tiles asked set masked.0 parts.0) files made.0 made.1)) in
    subst (λ (end : MaskView × Network). IsTileProblemOf asked files set end.0 end.1) ends (record {
      lines = parts.0;
      held = pins_given asked.pins files parts.0 parts.1;
      masked = mask_given asked files asked.mask masked.0 masked.1;
      few_pairs = is_built.0;
      pins = is_built.1.0;
      meant = is_built.1.1;
      problem = is_built.1.2;
    })

given_tiles_built : (set : TileSetView) (mask : MaskView) (wrap : Bool) (lines : List PinView) (pins : List Pin) → tile_pair_count set mask ≤ MAX_PAIRS → tile_map_pins set.tiles mask lines ≡ Ok pins
    → tile_map_problem set mask wrap lines ≡ Ok (problem_of_tiles set mask wrap pins)
given_tiles_built set mask wrap lines pins few meant =
    let test : nat_lt MAX_PAIRS (tile_pair_count set mask) ≡ false = grind (arith, nat_tests, few) in
    rw (test, meant) refl

pub given_tiled : (asked : RequestView) (files : List File) (set : TileSetView) (mask : MaskView) (P : Network) → IsTileProblemOf asked files set mask P → outcome (tiled_plan asked set) files ≡ Ok (mask, P)
given_tiled asked files set mask P of =
    let is_built : tile_map_problem set mask asked.wrap_out of.lines ≡ Ok P
    = given_tiles_built set mask asked.wrap_out of.lines of.pins of.few_pairs of.meant ∙ ap (λ P. let end : Result Network BuildFault = Ok P in end) (sym of.problem) in
    outcome_on (pins_plan asked.pins) (behind_pins asked set) files of.lines (given_pins asked.pins files of.lines of.held)
    ∙ outcome_on (mask_plan_by asked.mask asked) (behind_masked asked set of.lines) files mask (given_mask asked files asked.mask mask of.masked)
    ∙ outcome_on (step (posed_tiles asked set mask of.lines)) (λ (P : Network). let end : Plan (MaskView × Network) = done (mask, P) in end) files P
    (ok_step (posed_tiles asked set mask of.lines) files P (ok_refused refusals.Build (tile_map_problem set mask asked.wrap_out of.lines) P is_built))
