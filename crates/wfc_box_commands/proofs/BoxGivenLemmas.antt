-- What the plans of a box come to over told files, in the subject's words.
use Rattle.std.proofs.Common.{Bool, Err, List, None, Ok, Option, Result, Some, [], ap, arith, false, if◌then◌else◌, length, nat_lt, refl, subst, sym, true, ℕ, ◌∙◌, ◌≡◌, ◌≤◌}
use Rattle.std.proofs.lemmas.Bool.Decides.{nat_tests}
use Rattle.wfc_box.specs.BoxPinView.{BoxPinView}
use Rattle.wfc_box.specs.BoxPins.{box_pins_of}
use Rattle.wfc_box.specs.BoxProblem.{problem_of_box}
use Rattle.wfc_box.specs.Boxes.{LayerPin}
use Rattle.wfc_box.specs.Built.{box_built, box_pairs, box_pins_in}
use Rattle.wfc_box.specs.StackDocument.{stacks_of}
use Rattle.wfc_box.specs.Stacks.{stacked_pairs}
use Rattle.wfc_box.specs.declared.fault.StackFault.{StackFault}
use Rattle.wfc_box.specs.declared.frame.Frame.{Frame}
use Rattle.wfc_box_commands.proofs.BoxPlanLemmas.{behind_box_file, behind_box_lines, behind_bytes, behind_document, behind_pictures, behind_stacked}
use Rattle.wfc_box_commands.specs.BoxGiven.{HoldsBoxPins, IsBoxProblemOf, IsStackedSetOf}
use Rattle.wfc_box_commands.specs.BoxMaps.{OfBox}
use Rattle.wfc_box_commands.specs.BoxPlans.{StackedSet, box_pins_plan, box_plan, box_problem_plan, stacked_plan}
use Rattle.wfc_box_commands.specs.BoxSteps.{box_lines_in, frame_asked, posed_box, stacked_in}
use Rattle.wfc_outside.specs.Folder.{File}
use Rattle.wfc_outside.specs.Gives.{result_map}
use Rattle.wfc_pins.specs.declared.fault.BuildFault.{BuildFault}
use Rattle.wfc_pins.specs.declared.fault.BuildFault.TheVariants.{TooLarge}
use Rattle.wfc_plan.proofs.CallerLemmas.{done_is, file_given, given_file, ok_refused, ok_step, outcome_on, outcome_parts, step_ok, unrefused}
use Rattle.wfc_plan.specs.Files.{file_plan}
use Rattle.wfc_plan.specs.Plan.{outcome, step}
use Rattle.wfc_plan.specs.declared.fault.Fault.{Fault}
use Rattle.wfc_plan.specs.declared.fault.Refusal.TheVariants as refusals
use Rattle.wfc_plan.specs.declared.fault.Source.TheVariants.{Pins, Sample}
use Rattle.wfc_problem.specs.Network.{Network}
use Rattle.wfc_problem.specs.declared.TheConstants.{MAX_PAIRS}
use Rattle.wfc_task.proofs.CallerLemmas.{given_pictures, pictures_given}
use Rattle.wfc_task.specs.TilePlans.{pictures_plan}
use Rattle.wfc_task.specs.TileSteps.{document_in}
use Rattle.wfc_tileset.specs.Document.{set_of}
use Rattle.wfc_tileset.specs.Tiles.{TileSetView}
use Rattle.wfc_words.specs.RequestView.{RequestView}

-- ---- the tile set and its stacks

-- what a result that is made of another is made of
mapped_ok : {X Y E : Type 0} (f : X → Y) (result : Result X E) (value : Y) → result_map f result ≡ Ok value → (x : X) × (result ≡ Ok x) × (value ≡ f x)
mapped_ok f (Ok x) value is = let same : f x ≡ value = cc (is) in (x, refl, sym same)
mapped_ok f (Err fault) value is = absurd (cc (is))

-- a tile set and its stacks that the plan came to are those of the file
pub box_set_given : (asked : RequestView) (files : List File) (made : StackedSet) → outcome (stacked_plan asked) files ≡ Ok made → IsStackedSetOf asked files made
box_set_given asked files made is =
    let reads = outcome_parts (file_plan Sample asked.file) behind_bytes files made is in
    let bytes = reads.0 in
    let spelled = outcome_parts (step (document_in bytes)) (behind_document bytes) files made reads.2 in
    let document = spelled.0 in
    let taken = outcome_parts (pictures_plan (length document.tiles) document) (behind_pictures bytes) files made spelled.2 in
    let set = taken.0 in
    let allowed = outcome_parts (step (stacked_in set bytes)) (behind_stacked set) files made taken.2 in
    let stacks = mapped_ok (stacked_pairs set.tiles) (stacks_of set.tiles bytes) allowed.0
    (unrefused refusals.Stacks (result_map (stacked_pairs set.tiles) (stacks_of set.tiles bytes)) allowed.0 (step_ok (stacked_in set bytes) files allowed.0 allowed.1)) in
    let pair : StackedSet = (set, allowed.0) in
    subst (IsStackedSetOf asked files) (done_is pair made files allowed.2) (record {
      tiles = record {
        bytes = bytes;
        file = file_given Sample asked.file files bytes reads.1;
        document = document;
        spelled = unrefused refusals.Tiles (set_of bytes) document (step_ok (document_in bytes) files document spelled.1);
        pictures = pictures_given files (length document.tiles) document set taken.1;
      };
      stacks = stacks.0;
      declared = stacks.1;
      allowed = stacks.2;
    })

pub given_box_set : (asked : RequestView) (files : List File) (made : StackedSet) → IsStackedSetOf asked files made → outcome (stacked_plan asked) files ≡ Ok made
given_box_set asked files (set, stacked) of =
    let tiles = of.tiles in
    let allowed : result_map (stacked_pairs set.tiles) (stacks_of set.tiles tiles.bytes) ≡ Ok stacked
    = ap (result_map (stacked_pairs set.tiles)) of.declared ∙ ap (λ pairs. let end : Result (List (ℕ × ℕ)) StackFault = Ok pairs in end) (sym of.allowed) in
    outcome_on (file_plan Sample asked.file) behind_bytes files tiles.bytes (given_file Sample asked.file files tiles.bytes tiles.file)
    ∙ outcome_on (step (document_in tiles.bytes)) (behind_document tiles.bytes) files tiles.document (ok_step (document_in tiles.bytes) files tiles.document (ok_refused refusals.Tiles (set_of tiles.bytes) tiles.document tiles.spelled))
    ∙ outcome_on (pictures_plan (length tiles.document.tiles) tiles.document) (behind_pictures tiles.bytes) files set (given_pictures files (length tiles.document.tiles) tiles.document set tiles.pictures)
    ∙ outcome_on (step (stacked_in set tiles.bytes)) (behind_stacked set) files stacked
    (ok_step (stacked_in set tiles.bytes) files stacked (ok_refused refusals.Stacks (result_map (stacked_pairs set.tiles) (stacks_of set.tiles tiles.bytes)) stacked allowed))

-- ---- pins

pub box_pins_given : (files : List File) (name : Option (List ℕ)) (lines : List BoxPinView) → outcome (box_pins_plan name) files ≡ Ok lines → HoldsBoxPins files name lines
box_pins_given files None lines is = done_is [] lines files is
box_pins_given files (Some name) lines is =
    let parts = outcome_parts (file_plan Pins name) behind_box_file files lines is in
    (parts.0, file_given Pins name files parts.0 parts.1, unrefused refusals.Pins (box_pins_of parts.0) lines (step_ok (box_lines_in parts.0) files lines parts.2))

pub given_box_pins : (files : List File) (name : Option (List ℕ)) (lines : List BoxPinView) → HoldsBoxPins files name lines → outcome (box_pins_plan name) files ≡ Ok lines
given_box_pins files None lines held = ap (λ lines. let end : Result (List BoxPinView) Fault = Ok lines in end) held
given_box_pins files (Some name) lines held =
    outcome_on (file_plan Pins name) behind_box_file files held.0 (given_file Pins name files held.0 held.1)
    ∙ ok_step (box_lines_in held.0) files lines (ok_refused refusals.Pins (box_pins_of held.0) lines held.2)

-- ---- problems

-- the problem that was built, where one was
pub box_built_is : (set : TileSetView) (stacked : List (ℕ × ℕ)) (frame : Frame) (lines : List BoxPinView) (P : Network) → box_built set stacked frame lines ≡ Ok P
    → (box_pairs set frame ≤ MAX_PAIRS) × ((pins : List LayerPin) × (box_pins_in set.tiles frame lines ≡ Ok pins) × (P ≡ problem_of_box set stacked frame pins))
box_built_is set stacked frame lines P is = by_tests (nat_lt MAX_PAIRS (box_pairs set frame)) (box_pins_in set.tiles frame lines) refl refl is
  where
    by_tests : (many : Bool) (pins : Result (List LayerPin) BuildFault) → nat_lt MAX_PAIRS (box_pairs set frame) ≡ many → box_pins_in set.tiles frame lines ≡ pins
        → (if many then Err (TooLarge (box_pairs set frame)) else result_map (problem_of_box set stacked frame) pins) ≡ Ok P
        → (box_pairs set frame ≤ MAX_PAIRS) × ((pins : List LayerPin) × (box_pins_in set.tiles frame lines ≡ Ok pins) × (P ≡ problem_of_box set stacked frame pins))
    by_tests true pins p q is = absurd (cc (is))
    by_tests false pins p q is =
        let made = mapped_ok (problem_of_box set stacked frame) pins P is in
        (grind (arith, nat_tests, p), (made.0, q ∙ made.1, made.2))

given_box_built : (set : TileSetView) (stacked : List (ℕ × ℕ)) (frame : Frame) (lines : List BoxPinView) (pins : List LayerPin) → box_pairs set frame ≤ MAX_PAIRS
    → box_pins_in set.tiles frame lines ≡ Ok pins → box_built set stacked frame lines ≡ Ok (problem_of_box set stacked frame pins)
given_box_built set stacked frame lines pins few meant =
    let none : nat_lt MAX_PAIRS (box_pairs set frame) ≡ false = grind (arith, nat_tests, few) in
    rw (none, meant) refl

pub box_problem_given : (asked : RequestView) (files : List File) (made : StackedSet) (P : Network) → outcome (box_problem_plan asked made) files ≡ Ok P → IsBoxProblemOf asked files made P
box_problem_given asked files made P is =
    let frame = frame_asked asked in
    let held = outcome_parts (box_pins_plan asked.pins) (behind_box_lines asked made) files P is in
    let built = box_built_is made.0 made.1 frame held.0 P (unrefused refusals.Build (box_built made.0 made.1 frame held.0) P (step_ok (posed_box asked made.0 made.1 held.0) files P held.2)) in
    record { lines = held.0; held = box_pins_given files asked.pins held.0 held.1; few_pairs = built.0; pins = built.1.0; meant = built.1.1; problem = built.1.2 }

pub given_box_problem : (asked : RequestView) (files : List File) (made : StackedSet) (P : Network) → IsBoxProblemOf asked files made P → outcome (box_problem_plan asked made) files ≡ Ok P
given_box_problem asked files made P of =
    let frame = frame_asked asked in
    outcome_on (box_pins_plan asked.pins) (behind_box_lines asked made) files of.lines (given_box_pins files asked.pins of.lines of.held)
    ∙ ok_step (posed_box asked made.0 made.1 of.lines) files P
    (ok_refused refusals.Build (box_built made.0 made.1 frame of.lines) P (given_box_built made.0 made.1 frame of.lines of.pins of.few_pairs of.meant ∙ ap (λ P. let end : Result Network BuildFault = Ok P in end) (sym of.problem)))

-- the problem of a box is made exactly where it is that of the files
pub box_posed : (asked : RequestView) (files : List File) (P : Network) → outcome (box_plan asked) files ≡ Ok P → OfBox asked files P
box_posed asked files P is =
    let parts = outcome_parts (stacked_plan asked) (box_problem_plan asked) files P is in
    record { made = parts.0; tiles = box_set_given asked files parts.0 parts.1; problem = box_problem_given asked files parts.0 P parts.2 }

pub posed_box_given : (asked : RequestView) (files : List File) (P : Network) → OfBox asked files P → outcome (box_plan asked) files ≡ Ok P
posed_box_given asked files P of =
    outcome_on (stacked_plan asked) (box_problem_plan asked) files of.made (given_box_set asked files of.made of.tiles) ∙ given_box_problem asked files of.made P of.problem
