-- The first faults of what is read of a tile set, its pictures and its mask.
use Rattle.std.proofs.Common.{Err, List, None, Ok, Option, Result, Some, [], ap, inl, inr, length, refl, suc, sym, zero, ℕ, ◌∙◌, ◌∷◌, ◌≡◌, ◌⊎◌}
use Rattle.wfc_grid.specs.Grid.{GridView}
use Rattle.wfc_grid.specs.Reading.{grid_of}
use Rattle.wfc_outside.specs.Folder.{File}
use Rattle.wfc_pins.specs.PinView.{PinView}
use Rattle.wfc_plan.proofs.CallerLemmas.{Faults, Same, faults_as, faults_first, faults_group, faults_last, faults_none, faults_reading, faults_step, file_given, given_file, ok_refused, ok_step, one_file, one_value, outcome_on, outcome_out, outcome_parts, same_first, same_known, same_on, step_ok, unrefused}
use Rattle.wfc_plan.specs.Files.{IsFile, file_plan}
use Rattle.wfc_plan.specs.Order.{IsFirstFault}
use Rattle.wfc_plan.specs.Plan.{Plan, and_then, done, outcome, step}
use Rattle.wfc_plan.specs.Stages.{IsNamedFault, IsReadingFault, IsRefusal, TaskStage}
use Rattle.wfc_plan.specs.declared.fault.Fault.{Fault}
use Rattle.wfc_plan.specs.declared.fault.Refusal.TheVariants as refusals
use Rattle.wfc_plan.specs.declared.fault.Source.TheVariants.{Mask, Picture, Pins, Sample}
use Rattle.wfc_problem.specs.Network.{Network}
use Rattle.wfc_render.specs.Layout.{layout_of}
use Rattle.wfc_task.proofs.ProblemOrderLemmas.{faults_count, faults_pins, pins_stages, same_lines}
use Rattle.wfc_task.proofs.TileGivenLemmas.{given_mask, given_picture, given_tiles, mask_given, picture_given, tiles_given}
use Rattle.wfc_task.proofs.TileTaskLemmas.{behind_mask, behind_mask_grid, behind_masked, behind_pins}
use Rattle.wfc_task.specs.Given.{HoldsPins}
use Rattle.wfc_task.specs.SamplePlans.{pins_plan}
use Rattle.wfc_task.specs.Stages.{IsCountFault, IsPinsFault}
use Rattle.wfc_task.specs.Steps.{grid_in}
use Rattle.wfc_task.specs.TileGiven.{HoldsMask, IsTileSetOf}
use Rattle.wfc_task.specs.TilePlans.{document_plan, mask_plan, mask_plan_by, next_plan, tile_picture_plan, pictures_plan, tiled_plan, tiles_plan}
use Rattle.wfc_task.specs.TileStages.{IsDocumentFault, IsDocumentOf, IsGridOf, IsMaskFault, IsMaskFormFault, IsPictureFault, IsPicturesFault, IsTileLayoutFault, IsTilePairsFault, IsTilePinFault, IsTilesFault}
use Rattle.wfc_task.specs.TileSteps.{document_in, tile_layout, mask_in, with_next_picture, posed_tiles}
use Rattle.wfc_tiled.specs.Built.{tile_pair_count, tile_map_pins}
use Rattle.wfc_tiled.specs.Mask.{MaskView, mask_of}
use Rattle.wfc_tiled.specs.Tiles.{problem_of_tiles}
use Rattle.wfc_tileset.specs.Document.{set_of}
use Rattle.wfc_tileset.specs.Pictures.{kind_of, picture_name, picture_taken, side_of}
use Rattle.wfc_tileset.specs.Tiles.{TileSetView}
use Rattle.wfc_words.specs.RequestView.{RequestView}

-- ---- pictures

-- a plan, and what follows it, where each has the faults of one
faults_pair : {A B : Type 0} (plan : Plan A) (next : A → Plan B) (files : List File) (stage : TaskStage) (later : A → TaskStage) → Faults plan files stage → ((value : A) → Faults (next value) files (later value))
    → Faults (and_then plan next) files (λ fault. stage fault ⊎ ((value : A) × (outcome plan files ≡ Ok value) × later value fault))
faults_pair {A} {B} plan next files stage later faults rest fault = (to (outcome plan files) refl, from)
  where
    to : (end : Result A Fault) → outcome plan files ≡ end → outcome (and_then plan next) files ≡ Err fault → stage fault ⊎ ((value : A) × (outcome plan files ≡ Ok value) × later value fault)
    to (Ok value) was is = inr (value, was, (rest value fault).0 (sym (outcome_on plan next files value was) ∙ is))
    to (Err why) was is =
        let out : outcome (and_then plan next) files ≡ Err why = outcome_out plan next files why was in
        let same : why ≡ fault = cc (out, is) in
        inl ((faults fault).0 (was ∙ ap (λ f. let end : Result A Fault = Err f in end) same))

    from : stage fault ⊎ ((value : A) × (outcome plan files ≡ Ok value) × later value fault) → outcome (and_then plan next) files ≡ Err fault
    from (inl has) = outcome_out plan next files fault ((faults fault).1 has)
    from (inr (value, was, has)) = outcome_on plan next files value was ∙ (rest value fault).1 has

faults_picture : (files : List File) (name : Option (List ℕ)) (set : TileSetView) → Faults (tile_picture_plan name set) files (IsPictureFault files name set)
faults_picture files None set = λ fault. (λ is. absurd (cc (is)), λ none. absurd none)
faults_picture files (Some name) set =
    faults_as (tile_picture_plan (Some name) set) files (λ fault. IsReadingFault (Picture (length set.pictures)) files name fault ⊎ ((bytes : List ℕ) × (outcome (file_plan (Picture (length set.pictures)) name) files ≡ Ok bytes) × IsRefusal refusals.Tiles (picture_taken set bytes) fault))
    (IsPictureFault files (Some name) set) same
    (faults_pair (file_plan (Picture (length set.pictures)) name) (λ bytes. step (with_next_picture set bytes)) files (IsReadingFault (Picture (length set.pictures)) files name) (λ bytes. IsRefusal refusals.Tiles (picture_taken set bytes))
    (faults_reading (Picture (length set.pictures)) files name) (λ bytes. faults_step refusals.Tiles (picture_taken set bytes) files))
  where
    same : Same (λ fault. IsReadingFault (Picture (length set.pictures)) files name fault ⊎ ((bytes : List ℕ) × (outcome (file_plan (Picture (length set.pictures)) name) files ≡ Ok bytes) × IsRefusal refusals.Tiles (picture_taken set bytes) fault))
        (IsPictureFault files (Some name) set)
    same fault = (
      λ has. elim has [ inl one ↦ inl one | inr one ↦ inr (one.0, file_given (Picture (length set.pictures)) name files one.0 one.1, one.2) ],
      λ has. elim has [ inl one ↦ inl one | inr one ↦ inr (one.0, given_file (Picture (length set.pictures)) name files one.0 one.1, one.2) ],
    )

pub faults_pictures : (files : List File) (left : ℕ) (set : TileSetView) → Faults (pictures_plan left set) files (IsPicturesFault files left set)
faults_pictures files zero set = λ fault. (λ is. absurd (cc (is)), λ none. absurd none)
faults_pictures files (suc left) set =
    faults_as (pictures_plan (suc left) set) files (λ fault. IsPictureFault files (picture_name set (length set.pictures)) set fault ⊎ ((next : TileSetView) × (outcome (next_plan set) files ≡ Ok next) × IsPicturesFault files left next fault))
    (IsPicturesFault files (suc left) set) same
    (faults_pair (next_plan set) (λ set. pictures_plan left set) files (IsPictureFault files (picture_name set (length set.pictures)) set) (λ next. IsPicturesFault files left next)
    (faults_picture files (picture_name set (length set.pictures)) set) (λ next. faults_pictures files left next))
  where
    same : Same (λ fault. IsPictureFault files (picture_name set (length set.pictures)) set fault ⊎ ((next : TileSetView) × (outcome (next_plan set) files ≡ Ok next) × IsPicturesFault files left next fault)) (IsPicturesFault files (suc left) set)
    same fault = (
      λ has. elim has [ inl one ↦ inl one | inr one ↦ inr (one.0, picture_given files (picture_name set (length set.pictures)) set one.0 one.1, one.2) ],
      λ has. elim has [ inl one ↦ inl one | inr one ↦ inr (one.0, given_picture files (picture_name set (length set.pictures)) set one.0 one.1, one.2) ],
    )

-- ---- tile sets

-- the document that a plan came to is the file's, and there is one
document_given : (asked : RequestView) (files : List File) (document : TileSetView) → outcome (document_plan asked) files ≡ Ok document → IsDocumentOf asked files document
document_given asked files document is =
    let reads = outcome_parts (file_plan Sample asked.file) (λ bytes. step (document_in bytes)) files document is in
    record {
      bytes = reads.0;
      file = file_given Sample asked.file files reads.0 reads.1;
      spelled = unrefused refusals.Tiles (set_of reads.0) document (step_ok (document_in reads.0) files document reads.2);
    }

given_document : (asked : RequestView) (files : List File) (document : TileSetView) → IsDocumentOf asked files document → outcome (document_plan asked) files ≡ Ok document
given_document asked files document of =
    outcome_on (file_plan Sample asked.file) (λ bytes. step (document_in bytes)) files of.bytes (given_file Sample asked.file files of.bytes of.file)
    ∙ ok_step (document_in of.bytes) files document (ok_refused refusals.Tiles (set_of of.bytes) document of.spelled)

faults_document : (asked : RequestView) (files : List File) → Faults (document_plan asked) files (IsFirstFault (IsReadingFault Sample files asked.file ∷ IsDocumentFault asked files ∷ []))
faults_document asked files =
    faults_first (file_plan Sample asked.file) (λ bytes. step (document_in bytes)) files (IsReadingFault Sample files asked.file) (IsDocumentFault asked files ∷ []) (faults_reading Sample files asked.file)
    (λ bytes was.
    let file = file_given Sample asked.file files bytes was in
    faults_last (step (document_in bytes)) files (IsDocumentFault asked files)
    (faults_as (step (document_in bytes)) files (IsRefusal refusals.Tiles (set_of bytes)) (IsDocumentFault asked files)
    (same_known (λ other. IsFile files asked.file other) (λ other. IsRefusal refusals.Tiles (set_of other)) bytes file (λ other also. one_file files asked.file bytes other file also))
    (faults_step refusals.Tiles (set_of bytes) files)))

-- of a tile set and its pictures
abbrev pub tiles_stages : RequestView → List File → List TaskStage
tiles_stages asked files = IsReadingFault Sample files asked.file ∷ IsDocumentFault asked files ∷ IsTilesFault asked files ∷ []

pub faults_tiles : (asked : RequestView) (files : List File) → Faults (tiles_plan asked) files (IsFirstFault (tiles_stages asked files))
faults_tiles asked files =
    faults_group (document_plan asked) (λ (set : TileSetView). pictures_plan (length set.tiles) set) files (IsReadingFault Sample files asked.file ∷ IsDocumentFault asked files ∷ []) (IsTilesFault asked files ∷ []) (faults_document asked files)
    (λ document was.
    faults_last (pictures_plan (length document.tiles) document) files (IsTilesFault asked files)
    (faults_as (pictures_plan (length document.tiles) document) files (IsPicturesFault files (length document.tiles) document) (IsTilesFault asked files)
    (same_known (λ other. IsDocumentOf asked files other) (λ (other : TileSetView). IsPicturesFault files (length other.tiles) other) document (document_given asked files document was)
    (λ other also. one_value (document_plan asked) files document other was (given_document asked files other also)))
    (faults_pictures files (length document.tiles) document)))

-- what is looked at of a tile set
pub same_set : (asked : RequestView) (files : List File) (set : TileSetView) (stage : TileSetView → TaskStage) → outcome (tiles_plan asked) files ≡ Ok set
    → Same (stage set) (λ fault. (other : TileSetView) × IsTileSetOf asked files other × stage other fault)
same_set asked files set stage was =
    same_known (λ other. IsTileSetOf asked files other) stage set (tiles_given asked files set was) (λ other also. one_value (tiles_plan asked) files set other was (given_tiles asked files other also))

pub faults_tile_layout : (asked : RequestView) (files : List File) (set : TileSetView) → outcome (tiles_plan asked) files ≡ Ok set → Faults (step (tile_layout set asked)) files (IsTileLayoutFault asked files)
faults_tile_layout asked files set was =
    let stage : TileSetView → TaskStage = λ other. IsRefusal refusals.Render (layout_of (kind_of other.pictures) asked.form asked.width asked.height (side_of other.pictures)) in
    faults_as (step (tile_layout set asked)) files (stage set) (IsTileLayoutFault asked files) (same_set asked files set stage was)
    (faults_step refusals.Render (layout_of (kind_of set.pictures) asked.form asked.width asked.height (side_of set.pictures)) files)

-- ---- masks

abbrev pub mask_stages : RequestView → List File → Option (List ℕ) → List TaskStage
mask_stages asked files name = IsNamedFault Mask files name ∷ IsMaskFormFault files name ∷ IsMaskFault asked files name ∷ []

-- the grid of a mask's file, of which there is one
one_grid : (files : List File) (name : List ℕ) (grid other : GridView) → IsGridOf files name grid → IsGridOf files name other → other ≡ grid
one_grid files name grid other is also =
    let bytes : also.bytes ≡ is.bytes = one_file files name is.bytes also.bytes is.file also.file in
    cc (bytes, is.spelled, also.spelled)

faults_mask : (asked : RequestView) (files : List File) (name : Option (List ℕ)) → Faults (mask_plan_by name asked) files (IsFirstFault (mask_stages asked files name))
faults_mask asked files None = λ fault. (λ is. absurd (cc (is)), from fault)
  where
    from : (fault : Fault) → IsFirstFault (mask_stages asked files None) fault → outcome (mask_plan_by None asked) files ≡ Err fault
    from fault (inl none) = absurd none
    from fault (inr (_, inl none)) = absurd none
    from fault (inr (_, inr (_, inl none))) = absurd none
    from fault (inr (_, inr (_, inr (_, none)))) = absurd none
faults_mask asked files (Some name) =
    faults_first (file_plan Mask name) (behind_mask asked) files (IsReadingFault Mask files name) (IsMaskFormFault files (Some name) ∷ IsMaskFault asked files (Some name) ∷ []) (faults_reading Mask files name)
    (λ bytes was.
    let file = file_given Mask name files bytes was in
    faults_first (step (grid_in Mask bytes)) (behind_mask_grid asked) files (IsMaskFormFault files (Some name)) (IsMaskFault asked files (Some name) ∷ [])
    (faults_as (step (grid_in Mask bytes)) files (IsRefusal (refusals.Grid Mask) (grid_of bytes)) (IsMaskFormFault files (Some name))
    (same_known (λ other. IsFile files name other) (λ other. IsRefusal (refusals.Grid Mask) (grid_of other)) bytes file (λ other also. one_file files name bytes other file also))
    (faults_step (refusals.Grid Mask) (grid_of bytes) files))
    (λ grid read.
    let is : IsGridOf files name grid = record { bytes = bytes; file = file; spelled = unrefused (refusals.Grid Mask) (grid_of bytes) grid (step_ok (grid_in Mask bytes) files grid read) } in
    faults_last (step (mask_in asked grid)) files (IsMaskFault asked files (Some name))
    (faults_as (step (mask_in asked grid)) files (IsRefusal refusals.Mask (mask_of grid asked.width asked.height)) (IsMaskFault asked files (Some name))
    (same_known (λ other. IsGridOf files name other) (λ other. IsRefusal refusals.Mask (mask_of other asked.width asked.height)) grid is (λ other also. one_grid files name grid other is also))
    (faults_step refusals.Mask (mask_of grid asked.width asked.height) files))))

-- what is looked at of a mask
pub same_mask : (asked : RequestView) (files : List File) (mask : MaskView) (stage : MaskView → TaskStage) → outcome (mask_plan asked) files ≡ Ok mask
    → Same (stage mask) (λ fault. (other : MaskView) × HoldsMask asked files asked.mask other × stage other fault)
same_mask asked files mask stage was =
    same_known (λ other. HoldsMask asked files asked.mask other) stage mask (mask_given asked files asked.mask mask was)
    (λ other also. one_value (mask_plan asked) files mask other was (given_mask asked files asked.mask other also))

-- ---- problems

abbrev pub tile_problem_stages : RequestView → List File → List TaskStage
tile_problem_stages asked files = IsTilePairsFault asked files ∷ IsTilePinFault asked files ∷ []

same_tiles_built : (asked : RequestView) (files : List File) (set : TileSetView) (lines : List PinView) (mask : MaskView) → outcome (tiles_plan asked) files ≡ Ok set
    → outcome (pins_plan asked.pins) files ≡ Ok lines → outcome (mask_plan asked) files ≡ Ok mask
    → Same (IsFirstFault (IsCountFault (tile_pair_count set mask) ∷ IsRefusal refusals.Build (tile_map_pins set.tiles mask lines) ∷ [])) (IsFirstFault (tile_problem_stages asked files))
same_tiles_built asked files set lines mask was held masked =
    let counted : TileSetView → MaskView → TaskStage = λ set mask. IsCountFault (tile_pair_count set mask) in
    let counted_on : TileSetView → TaskStage = λ set fault. (mask : MaskView) × HoldsMask asked files asked.mask mask × counted set mask fault in
    let meant : TileSetView → MaskView → List PinView → TaskStage = λ set mask lines. IsRefusal refusals.Build (tile_map_pins set.tiles mask lines) in
    let meant_by : TileSetView → MaskView → TaskStage = λ set mask fault. (lines : List PinView) × HoldsPins files asked.pins lines × meant set mask lines fault in
    let meant_on : TileSetView → TaskStage = λ set fault. (mask : MaskView) × HoldsMask asked files asked.mask mask × meant_by set mask fault in
    same_first (counted set mask) (IsTilePairsFault asked files) (meant set mask lines ∷ []) (IsTilePinFault asked files ∷ [])
    (same_on (counted set mask) (counted_on set) (IsTilePairsFault asked files) (same_mask asked files mask (counted set) masked) (same_set asked files set counted_on was))
    (same_first (meant set mask lines) (IsTilePinFault asked files) [] []
    (same_on (meant set mask lines) (meant_by set mask) (IsTilePinFault asked files) (same_lines files asked.pins lines (meant set mask) held)
    (same_on (meant_by set mask) (meant_on set) (IsTilePinFault asked files) (same_mask asked files mask (meant_by set) masked) (same_set asked files set meant_on was)))
    (λ fault. (λ none. none, λ none. none)))

-- pins, then the mask, then the problem
abbrev pub tiled_stages : RequestView → List File → List TaskStage
tiled_stages asked files =
    IsNamedFault Pins files asked.pins ∷ IsPinsFault files asked.pins ∷ IsNamedFault Mask files asked.mask ∷ IsMaskFormFault files asked.mask ∷ IsMaskFault asked files asked.mask
    ∷ IsTilePairsFault asked files ∷ IsTilePinFault asked files ∷ []

pub faults_tiled : (asked : RequestView) (files : List File) (set : TileSetView) → outcome (tiles_plan asked) files ≡ Ok set → Faults (tiled_plan asked set) files (IsFirstFault (tiled_stages asked files))
faults_tiled asked files set was =
    faults_group (pins_plan asked.pins) (behind_pins asked set) files (pins_stages files asked.pins)
    (IsNamedFault Mask files asked.mask ∷ IsMaskFormFault files asked.mask ∷ IsMaskFault asked files asked.mask ∷ tile_problem_stages asked files) (faults_pins files asked.pins)
    (λ lines held.
    faults_group (mask_plan asked) (behind_masked asked set lines) files (mask_stages asked files asked.mask) (tile_problem_stages asked files) (faults_mask asked files asked.mask)
    (λ mask masked.
    let pins : List TaskStage = IsCountFault (tile_pair_count set mask) ∷ IsRefusal refusals.Build (tile_map_pins set.tiles mask lines) ∷ [] in
    faults_group (step (posed_tiles asked set mask lines)) (λ (P : Network). let end : Plan (MaskView × Network) = done (mask, P) in end) files (tile_problem_stages asked files) []
    (faults_as (step (posed_tiles asked set mask lines)) files (IsFirstFault pins) (IsFirstFault (tile_problem_stages asked files)) (same_tiles_built asked files set lines mask was held masked)
    (faults_count (tile_pair_count set mask) (problem_of_tiles set mask asked.wrap_out) (tile_map_pins set.tiles mask lines) files))
    (λ P made. faults_none (mask, P) files)))
