-- The first faults of a box's problem, and of `box-fill`.
use Rattle.std.proofs.Common.{Bool, Err, List, None, Ok, Option, Result, Some, [], ap, false, if◌then◌else◌, inl, inr, length, nat_lt, refl, subst, true, ℕ, ◌∷◌, ◌≡◌}
use Rattle.wfc_box.specs.BoxPinView.{BoxPinView}
use Rattle.wfc_box.specs.BoxPins.{box_pins_of}
use Rattle.wfc_box.specs.BoxProblem.{problem_of_box}
use Rattle.wfc_box.specs.BoxText.{box_layout_of}
use Rattle.wfc_box.specs.Built.{box_pairs, box_pins_in}
use Rattle.wfc_box.specs.StackDocument.{stacks_of}
use Rattle.wfc_box.specs.Stacks.{stacked_pairs}
use Rattle.wfc_box_commands.proofs.BoxGivenLemmas.{box_pins_given, box_set_given, given_box_pins, given_box_set}
use Rattle.wfc_box_commands.proofs.BoxPlanLemmas.{behind_box_file, behind_box_layout, behind_box_lines, behind_box_problem, behind_bytes, behind_document, behind_pictures, behind_stacked, behind_stacked_set}
use Rattle.wfc_box_commands.specs.BoxFillTask.{box_fill, box_fill_plan, box_filling_plan}
use Rattle.wfc_box_commands.specs.BoxGiven.{HoldsBoxPins, IsStackedSetOf}
use Rattle.wfc_box_commands.specs.BoxOrder.{box_fill_order, box_order}
use Rattle.wfc_box_commands.specs.BoxPlans.{StackedSet, box_pins_plan, box_plan, box_problem_plan, stacked_plan}
use Rattle.wfc_box_commands.specs.BoxStages.{IsBoxLayoutFault, IsBoxPairsFault, IsBoxPinFault, IsBoxPinsFault, IsStacksFault}
use Rattle.wfc_box_commands.specs.BoxSteps.{box_lines_in, frame_asked, box_form, posed_box, stacked_in}
use Rattle.wfc_choose.specs.declared.RuleKind.{RuleKind}
use Rattle.wfc_outside.specs.Folder.{File}
use Rattle.wfc_outside.specs.Gives.{result_map}
use Rattle.wfc_pins.specs.declared.fault.BuildFault.{BuildFault}
use Rattle.wfc_pins.specs.declared.fault.BuildFault.TheVariants.{TooLarge}
use Rattle.wfc_plan.proofs.CallerLemmas.{Faults, Same, faults_as, faults_choosers, faults_first, faults_group, faults_last, faults_none, faults_reading, faults_step, file_given, one_file, one_value, same_first, same_known, same_on, step_ok, unrefused}
use Rattle.wfc_plan.specs.Files.{IsFile, file_plan}
use Rattle.wfc_plan.specs.Kinds.{enough}
use Rattle.wfc_plan.specs.Order.{IsFirstFault}
use Rattle.wfc_plan.specs.Plan.{or_refuse, outcome, step}
use Rattle.wfc_plan.specs.Stages.{IsChooserFault, IsNamedFault, IsReadingFault, IsRefusal, TaskStage}
use Rattle.wfc_plan.specs.declared.fault.Fault.{Fault}
use Rattle.wfc_plan.specs.declared.fault.Refusal.{Refusal}
use Rattle.wfc_plan.specs.declared.fault.Refusal.TheVariants as refusals
use Rattle.wfc_plan.specs.declared.fault.Source.TheVariants.{Pins, Sample}
use Rattle.wfc_problem.specs.Network.{Network}
use Rattle.wfc_problem.specs.declared.TheConstants.{MAX_PAIRS}
use Rattle.wfc_task.proofs.CallerLemmas.{faults_count, faults_pictures, given_tiles, pictures_given}
use Rattle.wfc_task.specs.Stages.{IsCountFault}
use Rattle.wfc_task.specs.TileGiven.{IsTileSetOf}
use Rattle.wfc_task.specs.TilePlans.{pictures_plan, tiles_plan}
use Rattle.wfc_task.specs.TileStages.{IsDocumentFault, IsDocumentOf, IsPicturesFault, IsTilesFault}
use Rattle.wfc_task.specs.TileSteps.{document_in}
use Rattle.wfc_tileset.specs.Document.{set_of}
use Rattle.wfc_tileset.specs.Pictures.{kind_of, side_of}
use Rattle.wfc_tileset.specs.Tiles.{TileSetView}
use Rattle.wfc_words.specs.RequestView.{RequestView}

-- ---- the tile set and its stacks

-- what is made of a result has its faults
same_mapped : {X Y E : Type 0} (refusal : E → Refusal) (f : X → Y) (result : Result X E) → Same (IsRefusal refusal (result_map f result)) (IsRefusal refusal result)
same_mapped refusal f (Ok x) fault = (λ has. absurd (cc (has.1)), λ has. absurd (cc (has.1)))
same_mapped {X} {Y} {E} refusal f (Err why) fault = (
  λ has. let same : why ≡ has.0 = cc (has.1) in (has.0, ap (λ e. let end : Result X E = Err e in end) same, has.2),
  λ has. let same : why ≡ has.0 = cc (has.1) in (has.0, ap (λ e. let end : Result Y E = Err e in end) same, has.2),
)

-- what a document with these bytes is spelled as
document_spelled : (asked : RequestView) (files : List File) (bytes : List ℕ) (document : TileSetView) → IsFile files asked.file bytes → outcome (step (document_in bytes)) files ≡ Ok document → IsDocumentOf asked files document
document_spelled asked files bytes document file read = record { bytes = bytes; file = file; spelled = unrefused refusals.Tiles (set_of bytes) document (step_ok (document_in bytes) files document read) }

-- a document is the one of its file
one_document : (asked : RequestView) (files : List File) (document other : TileSetView) → IsDocumentOf asked files document → IsDocumentOf asked files other → other ≡ document
one_document asked files document other is also =
    let bytes : also.bytes ≡ is.bytes = one_file files asked.file is.bytes also.bytes is.file also.file in
    cc (bytes, is.spelled, also.spelled)

-- the stacks of a tile set's file are those of its bytes
same_stacks : (asked : RequestView) (files : List File) (set : TileSetView) (tiles : IsTileSetOf asked files set) → Same (IsRefusal refusals.Stacks (stacks_of set.tiles tiles.bytes)) (IsStacksFault asked files)
same_stacks asked files set tiles fault = (λ has. (set, tiles, has), from)
  where
    from : IsStacksFault asked files fault → IsRefusal refusals.Stacks (stacks_of set.tiles tiles.bytes) fault
    from (other, also, has) =
        let same : other ≡ set = one_value (tiles_plan asked) files set other (given_tiles asked files set tiles) (given_tiles asked files other also) in
        let bytes : also.bytes ≡ tiles.bytes = one_file files asked.file tiles.bytes also.bytes tiles.file also.file in
        subst (λ (b : List ℕ). IsRefusal refusals.Stacks (stacks_of set.tiles b) fault) bytes (subst (λ (s : TileSetView). IsRefusal refusals.Stacks (stacks_of s.tiles also.bytes) fault) same has)

abbrev stacked_stages : RequestView → List File → List TaskStage
stacked_stages asked files = IsReadingFault Sample files asked.file ∷ IsDocumentFault asked files ∷ IsTilesFault asked files ∷ IsStacksFault asked files ∷ []

faults_stacked : (asked : RequestView) (files : List File) → Faults (stacked_plan asked) files (IsFirstFault (stacked_stages asked files))
unfolding document_spelled
faults_stacked asked files =
    faults_first (file_plan Sample asked.file) behind_bytes files (IsReadingFault Sample files asked.file) (IsDocumentFault asked files ∷ IsTilesFault asked files ∷ IsStacksFault asked files ∷ []) (faults_reading Sample files asked.file)
    (λ bytes was.
    let file = file_given Sample asked.file files bytes was in
    faults_first (step (document_in bytes)) (behind_document bytes) files (IsDocumentFault asked files) (IsTilesFault asked files ∷ IsStacksFault asked files ∷ [])
    (faults_as (step (document_in bytes)) files (IsRefusal refusals.Tiles (set_of bytes)) (IsDocumentFault asked files)
    (same_known (λ other. IsFile files asked.file other) (λ other. IsRefusal refusals.Tiles (set_of other)) bytes file (λ other also. one_file files asked.file bytes other file also))
    (faults_step refusals.Tiles (set_of bytes) files))
    (λ document read.
    let is = document_spelled asked files bytes document file read in
    faults_first (pictures_plan (length document.tiles) document) (behind_pictures bytes) files (IsTilesFault asked files) (IsStacksFault asked files ∷ [])
    (faults_as (pictures_plan (length document.tiles) document) files (IsPicturesFault files (length document.tiles) document) (IsTilesFault asked files)
    (same_known (λ other. IsDocumentOf asked files other) (λ (other : TileSetView). IsPicturesFault files (length other.tiles) other) document is (λ other also. one_document asked files document other is also))
    (faults_pictures files (length document.tiles) document))
    (λ set taken.
    let tiles : IsTileSetOf asked files set
    = record { bytes = bytes; file = file; document = document; spelled = is.spelled; pictures = pictures_given files (length document.tiles) document set taken } in
    faults_first (step (stacked_in set bytes)) (behind_stacked set) files (IsStacksFault asked files) []
    (faults_as (step (stacked_in set bytes)) files (IsRefusal refusals.Stacks (result_map (stacked_pairs set.tiles) (stacks_of set.tiles bytes))) (IsStacksFault asked files)
    (same_on (IsRefusal refusals.Stacks (result_map (stacked_pairs set.tiles) (stacks_of set.tiles bytes))) (IsRefusal refusals.Stacks (stacks_of set.tiles bytes)) (IsStacksFault asked files)
    (same_mapped refusals.Stacks (stacked_pairs set.tiles) (stacks_of set.tiles bytes)) (same_stacks asked files set tiles))
    (faults_step refusals.Stacks (result_map (stacked_pairs set.tiles) (stacks_of set.tiles bytes)) files))
    (λ stacked allowed. faults_none (set, stacked) files))))

-- what is looked at of a tile set with its stacks
same_stacked : (asked : RequestView) (files : List File) (made : StackedSet) (stage : StackedSet → TaskStage) → outcome (stacked_plan asked) files ≡ Ok made
    → Same (stage made) (λ fault. (other : StackedSet) × IsStackedSetOf asked files other × stage other fault)
same_stacked asked files made stage was =
    same_known (λ other. IsStackedSetOf asked files other) stage made (box_set_given asked files made was) (λ other also. one_value (stacked_plan asked) files made other was (given_box_set asked files other also))

-- ---- the layout

faults_box_layout : (asked : RequestView) (files : List File) (made : StackedSet) → outcome (stacked_plan asked) files ≡ Ok made → Faults (step (box_form made.0 asked)) files (IsBoxLayoutFault asked files)
faults_box_layout asked files made was =
    let stage : StackedSet → TaskStage = λ other. IsRefusal refusals.Render (box_layout_of (kind_of other.0.pictures) asked.form asked.width asked.height asked.depth (side_of other.0.pictures)) in
    faults_as (step (box_form made.0 asked)) files (stage made) (IsBoxLayoutFault asked files) (same_stacked asked files made stage was)
    (faults_step refusals.Render (box_layout_of (kind_of made.0.pictures) asked.form asked.width asked.height asked.depth (side_of made.0.pictures)) files)

-- ---- pins

abbrev box_pins_stages : List File → Option (List ℕ) → List TaskStage
box_pins_stages files name = IsNamedFault Pins files name ∷ IsBoxPinsFault files name ∷ []

faults_box_pins : (files : List File) (name : Option (List ℕ)) → Faults (box_pins_plan name) files (IsFirstFault (box_pins_stages files name))
faults_box_pins files None = λ fault. (λ is. absurd (cc (is)), from fault)
  where
    from : (fault : Fault) → IsFirstFault (box_pins_stages files None) fault → outcome (box_pins_plan None) files ≡ Err fault
    from fault (inl none) = absurd none
    from fault (inr (_, inl none)) = absurd none
    from fault (inr (_, inr (_, none))) = absurd none
faults_box_pins files (Some name) =
    faults_first (file_plan Pins name) behind_box_file files (IsReadingFault Pins files name) (IsBoxPinsFault files (Some name) ∷ []) (faults_reading Pins files name)
    (λ bytes was.
    let file = file_given Pins name files bytes was in
    faults_last (step (box_lines_in bytes)) files (IsBoxPinsFault files (Some name))
    (faults_as (step (box_lines_in bytes)) files (IsRefusal refusals.Pins (box_pins_of bytes)) (IsBoxPinsFault files (Some name))
    (same_known (λ other. IsFile files name other) (λ other. IsRefusal refusals.Pins (box_pins_of other)) bytes file (λ other also. one_file files name bytes other file also))
    (faults_step refusals.Pins (box_pins_of bytes) files)))

-- the lines of a pins file are some
same_box_lines : (files : List File) (name : Option (List ℕ)) (lines : List BoxPinView) (stage : List BoxPinView → TaskStage) → outcome (box_pins_plan name) files ≡ Ok lines
    → Same (stage lines) (λ fault. (other : List BoxPinView) × HoldsBoxPins files name other × stage other fault)
same_box_lines files name lines stage was =
    same_known (λ other. HoldsBoxPins files name other) stage lines (box_pins_given files name lines was) (λ other also. one_value (box_pins_plan name) files lines other was (given_box_pins files name other also))

-- ---- problems

same_box_built : (asked : RequestView) (files : List File) (made : StackedSet) (lines : List BoxPinView) → outcome (stacked_plan asked) files ≡ Ok made → outcome (box_pins_plan asked.pins) files ≡ Ok lines
    → Same (IsFirstFault (IsCountFault (box_pairs made.0 (frame_asked asked)) ∷ IsRefusal refusals.Build (box_pins_in made.0.tiles (frame_asked asked) lines) ∷ [])) (IsFirstFault (IsBoxPairsFault asked files ∷ IsBoxPinFault asked files ∷ []))
same_box_built asked files made lines was held =
    let counted : StackedSet → TaskStage = λ made. IsCountFault (box_pairs made.0 (frame_asked asked)) in
    let meant : StackedSet → List BoxPinView → TaskStage = λ made lines. IsRefusal refusals.Build (box_pins_in made.0.tiles (frame_asked asked) lines) in
    let meant_by : StackedSet → TaskStage = λ made fault. (lines : List BoxPinView) × HoldsBoxPins files asked.pins lines × meant made lines fault in
    same_first (counted made) (IsBoxPairsFault asked files) (meant made lines ∷ []) (IsBoxPinFault asked files ∷ []) (same_stacked asked files made counted was)
    (same_first (meant made lines) (IsBoxPinFault asked files) [] []
    (same_on (meant made lines) (meant_by made) (IsBoxPinFault asked files) (same_box_lines files asked.pins lines (meant made) held) (same_stacked asked files made meant_by was))
    (λ fault. (λ none. none, λ none. none)))

abbrev box_problem_stages : RequestView → List File → List TaskStage
box_problem_stages asked files = IsNamedFault Pins files asked.pins ∷ IsBoxPinsFault files asked.pins ∷ IsBoxPairsFault asked files ∷ IsBoxPinFault asked files ∷ []

-- what is made of what a test lets pass
made_within : {X Y E : Type 0} (make : X → Y) (refused : Bool) (fault : E) (given : Result X E) → result_map make (if refused then Err fault else given) ≡ (if refused then Err fault else result_map make given)
made_within make true fault given = refl
made_within make false fault given = refl

faults_box_problem : (asked : RequestView) (files : List File) (made : StackedSet) → outcome (stacked_plan asked) files ≡ Ok made → Faults (box_problem_plan asked made) files (IsFirstFault (box_problem_stages asked files))
faults_box_problem asked files made was =
    let frame = frame_asked asked in
    faults_group (box_pins_plan asked.pins) (behind_box_lines asked made) files (box_pins_stages files asked.pins) (IsBoxPairsFault asked files ∷ IsBoxPinFault asked files ∷ []) (faults_box_pins files asked.pins)
    (λ lines held.
    faults_as (step (posed_box asked made.0 made.1 lines)) files (IsFirstFault (IsCountFault (box_pairs made.0 frame) ∷ IsRefusal refusals.Build (box_pins_in made.0.tiles frame lines) ∷ []))
    (IsFirstFault (IsBoxPairsFault asked files ∷ IsBoxPinFault asked files ∷ [])) (same_box_built asked files made lines was held)
    (subst (λ (posed : Result Network BuildFault). Faults (step (or_refuse refusals.Build posed)) files (IsFirstFault (IsCountFault (box_pairs made.0 frame) ∷ IsRefusal refusals.Build (box_pins_in made.0.tiles frame lines) ∷ [])))
    (made_within (problem_of_box made.0 made.1 frame) (nat_lt MAX_PAIRS (box_pairs made.0 frame)) (TooLarge (box_pairs made.0 frame)) (box_pins_in made.0.tiles frame lines))
    (faults_count (box_pairs made.0 frame) (problem_of_box made.0 made.1 frame) (box_pins_in made.0.tiles frame lines) files)))

-- the first fault of the problem of a box
pub faults_box : (asked : RequestView) (files : List File) → Faults (box_plan asked) files (IsFirstFault (box_order asked files))
faults_box asked files =
    faults_group (stacked_plan asked) (box_problem_plan asked) files (stacked_stages asked files) (box_problem_stages asked files) (faults_stacked asked files) (λ made was. faults_box_problem asked files made was)

-- ---- `box-fill`

faults_box_filling : (asked : RequestView) (files : List File) → Faults (box_filling_plan asked) files (IsFirstFault (IsReadingFault Sample files asked.file ∷ IsDocumentFault asked files ∷ IsTilesFault asked files ∷ IsStacksFault asked files ∷ IsBoxLayoutFault asked files ∷ box_problem_stages asked files))
faults_box_filling asked files =
    faults_group (stacked_plan asked) (behind_stacked_set asked) files (stacked_stages asked files) (IsBoxLayoutFault asked files ∷ box_problem_stages asked files) (faults_stacked asked files)
    (λ made was. faults_first (step (box_form made.0 asked)) (behind_box_layout asked made) files (IsBoxLayoutFault asked files) (box_problem_stages asked files) (faults_box_layout asked files made was)
    (λ form written. faults_group (box_problem_plan asked made) (behind_box_problem made form) files (box_problem_stages asked files) [] (faults_box_problem asked files made was) (λ P posed. faults_none (box_fill made.0 form P) files)))

-- the first fault of `box-fill`
pub faults_box_fill : (kinds : List RuleKind) (asked : RequestView) (files : List File) → Faults (box_fill_plan kinds asked) files (IsFirstFault (box_fill_order kinds asked files))
faults_box_fill kinds asked files =
    faults_first (step (enough 1 kinds asked.rule)) (λ _. box_filling_plan asked) files (IsChooserFault 1 kinds asked.rule)
    (IsReadingFault Sample files asked.file ∷ IsDocumentFault asked files ∷ IsTilesFault asked files ∷ IsStacksFault asked files ∷ IsBoxLayoutFault asked files ∷ box_problem_stages asked files) (faults_choosers 1 kinds asked.rule files)
    (λ _ found. faults_box_filling asked files)
