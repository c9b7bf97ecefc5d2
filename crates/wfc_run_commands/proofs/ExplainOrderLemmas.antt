-- The first faults of `explain`.
use Rattle.std.proofs.Common.{Bool, Err, List, Ok, Result, [], ap, arith, false, if◌then◌else◌, inl, inr, length, nat_le, refl, sym, true, ◌++◌, ◌∙◌, ◌∷◌, ◌≡◌}
use Rattle.std.proofs.lemmas.Bool.Decides.{nat_tests}
use Rattle.std.specs.Prelude.{◌↔◌}
use Rattle.wfc_choose.specs.declared.RuleKind.{RuleKind}
use Rattle.wfc_explain.specs.Problems.{SamplePins, TilesPins, pinned_sample}
use Rattle.wfc_model.specs.Legal.{Pin}
use Rattle.wfc_outside.specs.Folder.{File}
use Rattle.wfc_outside.specs.Gives.{result_map}
use Rattle.wfc_overlap.specs.Built as overlap
use Rattle.wfc_overlap.specs.Sample.{problem_of_sample}
use Rattle.wfc_pins.specs.PinView.{PinView}
use Rattle.wfc_pins.specs.declared.fault.BuildFault.{BuildFault}
use Rattle.wfc_plan.proofs.CallerLemmas.{Faults, faults_as, faults_choosers, faults_first, faults_group, faults_none, made_in_order, outcome_on, outcome_out}
use Rattle.wfc_plan.specs.Kinds.{enough}
use Rattle.wfc_plan.specs.Order.{AreInOrder, IsFirstFault}
use Rattle.wfc_plan.specs.Plan.{Plan, and_then, done, or_refuse, outcome, step}
use Rattle.wfc_plan.specs.Stages.{IsChooserFault, IsNamedFault, TaskStage}
use Rattle.wfc_plan.specs.declared.fault.Fault.{Fault}
use Rattle.wfc_plan.specs.declared.fault.Refusal.{Refusal}
use Rattle.wfc_plan.specs.declared.fault.Refusal.TheVariants as refusals
use Rattle.wfc_plan.specs.declared.fault.Source.TheVariants.{Mask}
use Rattle.wfc_problem.specs.Network.{Network}
use Rattle.wfc_run_commands.proofs.ExplainGivenLemmas.{are_read, behind_lesson, behind_lines, behind_mask_of, behind_read, behind_sample_pins, behind_set, behind_tile_lines, behind_tiles_pins}
use Rattle.wfc_run_commands.specs.ExplainOrder.{IsLinesFault, IsManyPinsFault, explain_order, explain_order_by}
use Rattle.wfc_run_commands.specs.ExplainTask.{explain, explain_plan, explain_plan_by, few_lines, line_numbers, lines_plan, pins_of_sample, pins_of_tiles}
use Rattle.wfc_run_commands.specs.declared.explaining.TheConstants.{EXPLAIN_CHOOSERS, MAX_LINES}
use Rattle.wfc_task.proofs.CallerLemmas.{faults_problem, faults_sample, faults_tiled, faults_tiles, problem_stages, sample_stages, tiles_stages}
use Rattle.wfc_task.proofs.ProblemOrderLemmas.{faults_pins, pins_stages, same_lines}
use Rattle.wfc_task.proofs.TileTaskLemmas.{behind_masked, behind_pins}
use Rattle.wfc_task.specs.Maps.{asked_output}
use Rattle.wfc_task.specs.SamplePlans.{pins_plan, problem_plan, sample_plan}
use Rattle.wfc_task.specs.Steps.{problem_of_lines}
use Rattle.wfc_task.specs.TilePlans.{mask_plan, tiled_plan, tiles_plan}
use Rattle.wfc_task.specs.TileStages.{IsMaskFault, IsMaskFormFault, IsTilePairsFault, IsTilePinFault}
use Rattle.wfc_task.specs.TileSteps.{posed_tiles}
use Rattle.wfc_task.specs.declared.lesson.Taught.{Taught}
use Rattle.wfc_tiled.specs.Built as tiled
use Rattle.wfc_tiled.specs.Mask.{MaskView}
use Rattle.wfc_tiled.specs.Tiles.{problem_of_tiles}
use Rattle.wfc_tileset.specs.Tiles.{TileSetView}
use Rattle.wfc_words.specs.RequestView.{RequestView}
use Rattle.wfc_words.specs.declared.kinds.SourceModel.{SourceModel}
use Rattle.wfc_words.specs.declared.kinds.SourceModel.TheVariants.{Overlap, Tiles}

-- ---- the lines

-- lines that are counted
faults_few : (lines : List PinView) (files : List File) → Faults (step (few_lines lines)) files (IsLinesFault (length lines))
faults_few lines files fault = by_test (nat_le (length lines) MAX_LINES) refl
  where
    by_test : (low : Bool) → nat_le (length lines) MAX_LINES ≡ low
        → (outcome (step (let end : Result (Unit {0}) Refusal = if low then Ok tt else Err (refusals.TooManyPins (length lines)) in end)) files ≡ Err fault) ↔ IsLinesFault (length lines) fault
    by_test true test = (λ is. absurd (cc (is)), λ has. absurd (grind (arith, nat_tests, test, has.many)))
    by_test false test = (
      λ is. record { many = grind (arith, nat_tests, test); is = cc (is) },
      λ has. ap (λ f. let end : Result (Unit {0}) Fault = Err f in end) (sym has.is),
    )

abbrev pub lines_stages : RequestView → List File → List TaskStage
lines_stages asked files = pins_stages files asked.pins ++ (IsManyPinsFault asked files ∷ [])

faults_lines : (asked : RequestView) (files : List File) → Faults (lines_plan asked) files (IsFirstFault (lines_stages asked files))
faults_lines asked files =
    faults_group (pins_plan asked.pins) behind_read files (pins_stages files asked.pins) (IsManyPinsFault asked files ∷ []) (faults_pins files asked.pins)
    (λ lines held.
    faults_first (step (few_lines lines)) (λ _. let end : Plan (List PinView) = done lines in end) files (IsManyPinsFault asked files) []
    (faults_as (step (few_lines lines)) files (IsLinesFault (length lines)) (IsManyPinsFault asked files) (same_lines files asked.pins lines (λ other. IsLinesFault (length other)) held) (faults_few lines files))
    (λ given few. faults_none lines files))

-- lines that were read are in order
lines_in_order : (asked : RequestView) (files : List File) (lines : List PinView) → outcome (pins_plan asked.pins) files ≡ Ok lines → AreInOrder (pins_stages files asked.pins)
lines_in_order asked files lines held = (made_in_order (pins_plan asked.pins) files (pins_stages files asked.pins) (faults_pins files asked.pins)).0 (lines, held)

-- ---- plans with the same faults

moved : {A B : Type 0} (f g : Fault) → ◌≡◌ {A = Result A Fault} (Err f) (Err g) → ◌≡◌ {A = Result B Fault} (Err f) (Err g)
moved f g is = let same : f ≡ g = cc (is) in ap (λ x. Err x) same

-- where what follows has a fault with the one, it has it with the other
after_same : {A B C : Type 0} (plan : Plan A) (f : A → Plan B) (g : A → Plan C) (files : List File) (fault : Fault)
    → ((value : A) → outcome (f value) files ≡ Err fault → outcome (g value) files ≡ Err fault) → outcome (and_then plan f) files ≡ Err fault → outcome (and_then plan g) files ≡ Err fault
after_same {A} plan f g files fault same is = by_first (outcome plan files) refl
  where
    by_first : (first : Result A Fault) → outcome plan files ≡ first → outcome (and_then plan g) files ≡ Err fault
    by_first (Ok value) first = outcome_on plan g files value first ∙ same value (sym (outcome_on plan f files value first) ∙ is)
    by_first (Err why) first = outcome_out plan g files why first ∙ moved why fault (sym (outcome_out plan f files why first) ∙ is)

-- whatever is made of the same pins has their faults
same_made : {A B : Type 0} (f : List Pin → A) (g : List Pin → B) (found : Result (List Pin) BuildFault) (files : List File) (fault : Fault)
    → (outcome (step (or_refuse refusals.Build (result_map f found))) files ≡ Err fault) ↔ (outcome (step (or_refuse refusals.Build (result_map g found))) files ≡ Err fault)
same_made f g (Err why) files fault = (moved _ fault, moved _ fault)
same_made f g (Ok pins) files fault = (λ is. absurd (cc (is)), λ is. absurd (cc (is)))

-- ---- problems of samples

-- the pins of a sample are found exactly where its problem is built, and have the same faults
same_sample : (asked : RequestView) (lesson : Taught) (lines : List PinView) (files : List File) (fault : Fault)
    → (outcome (step (pins_of_sample asked lesson lines)) files ≡ Err fault) ↔ (outcome (step (problem_of_lines asked lesson.patterns lesson.palette lines)) files ≡ Err fault)
same_sample asked lesson lines files fault =
    same_made (λ pins. let made : SamplePins = record { patterns = lesson.patterns; output = asked_output asked; pins = pins } in made) (problem_of_sample lesson.patterns (asked_output asked))
    (overlap.checked_picture_pins lesson.patterns lesson.palette (asked_output asked) lines) files fault

faults_sample_pins : (asked : RequestView) (files : List File) (lesson : Taught) (lines : List PinView) → outcome (sample_plan asked) files ≡ Ok lesson → outcome (pins_plan asked.pins) files ≡ Ok lines
    → Faults (step (pins_of_sample asked lesson lines)) files (IsFirstFault (problem_stages asked files))
faults_sample_pins asked files lesson lines was held fault = (
  λ is. out (((faults_problem asked files lesson was) fault).0 (reads ∙ (same_sample asked lesson lines files fault).0 is)),
  λ has. (same_sample asked lesson lines files fault).1 (sym reads ∙ ((faults_problem asked files lesson was) fault).1 (inr (order.0, inr (order.1.0, has)))),
)
  where
    order : AreInOrder (pins_stages files asked.pins)
    order = lines_in_order asked files lines held

    reads : outcome (problem_plan asked lesson) files ≡ outcome (step (problem_of_lines asked lesson.patterns lesson.palette lines)) files
    reads = outcome_on (pins_plan asked.pins) (λ lines. step (problem_of_lines asked lesson.patterns lesson.palette lines)) files lines held

    out : IsFirstFault (pins_stages files asked.pins ++ problem_stages asked files) fault → IsFirstFault (problem_stages asked files) fault
    out (inl has) = absurd (order.0 fault has)
    out (inr (_, inl has)) = absurd (order.1.0 fault has)
    out (inr (_, inr (_, rest))) = rest

-- ---- problems of tile sets

same_tiles : (asked : RequestView) (set : TileSetView) (mask : MaskView) (lines : List PinView) (files : List File) (fault : Fault)
    → (outcome (step (pins_of_tiles asked set mask lines)) files ≡ Err fault) ↔ (outcome (step (posed_tiles asked set mask lines)) files ≡ Err fault)
same_tiles asked set mask lines files fault =
    same_made (λ pins. let made : TilesPins = record { tiles = set; mask = mask; wrap = asked.wrap_out; pins = pins } in made) (problem_of_tiles set mask asked.wrap_out)
    (tiled.checked_tile_map_pins set mask lines) files fault

-- the mask, and then the problem
abbrev masked_stages : RequestView → List File → List TaskStage
masked_stages asked files =
    IsNamedFault Mask files asked.mask ∷ IsMaskFormFault files asked.mask ∷ IsMaskFault asked files asked.mask ∷ IsTilePairsFault asked files ∷ IsTilePinFault asked files ∷ []

faults_tiles_pins : (asked : RequestView) (files : List File) (set : TileSetView) (lines : List PinView) → outcome (tiles_plan asked) files ≡ Ok set → outcome (pins_plan asked.pins) files ≡ Ok lines
    → Faults (behind_tile_lines asked set lines) files (IsFirstFault (masked_stages asked files))
faults_tiles_pins asked files set lines was held fault = (
  λ is. out (((faults_tiled asked files set was) fault).0 (reads ∙ after_same (mask_plan asked) (behind_mask_of asked set lines) (behind_masked asked set lines) files fault to is)),
  λ has. after_same (mask_plan asked) (behind_masked asked set lines) (behind_mask_of asked set lines) files fault from (sym reads ∙ ((faults_tiled asked files set was) fault).1 (inr (order.0, inr (order.1.0, has)))),
)
  where
    order : AreInOrder (pins_stages files asked.pins)
    order = lines_in_order asked files lines held

    reads : outcome (tiled_plan asked set) files ≡ outcome (behind_pins asked set lines) files
    reads = outcome_on (pins_plan asked.pins) (behind_pins asked set) files lines held

    to : (mask : MaskView) → outcome (behind_mask_of asked set lines mask) files ≡ Err fault → outcome (behind_masked asked set lines mask) files ≡ Err fault
    to mask is = ended (outcome (step (pins_of_tiles asked set mask lines)) files) refl
      where
        ended : (r : Result TilesPins Fault) → outcome (step (pins_of_tiles asked set mask lines)) files ≡ r → outcome (behind_masked asked set lines mask) files ≡ Err fault
        ended (Ok pins) made = absurd (cc (is, outcome_on (step (pins_of_tiles asked set mask lines)) (behind_tiles_pins lines) files pins made))
        ended (Err why) made =
            outcome_out (step (posed_tiles asked set mask lines)) (λ (P : Network). let end : Plan (MaskView × Network) = done (mask, P) in end) files why ((same_tiles asked set mask lines files why).0 made)
            ∙ moved why fault (sym (outcome_out (step (pins_of_tiles asked set mask lines)) (behind_tiles_pins lines) files why made) ∙ is)

    from : (mask : MaskView) → outcome (behind_masked asked set lines mask) files ≡ Err fault → outcome (behind_mask_of asked set lines mask) files ≡ Err fault
    from mask is = ended (outcome (step (posed_tiles asked set mask lines)) files) refl
      where
        ended : (r : Result Network Fault) → outcome (step (posed_tiles asked set mask lines)) files ≡ r → outcome (behind_mask_of asked set lines mask) files ≡ Err fault
        ended (Ok P) made = absurd (cc (is, outcome_on (step (posed_tiles asked set mask lines)) (λ (P : Network). let end : Plan (MaskView × Network) = done (mask, P) in end) files P made))
        ended (Err why) made =
            outcome_out (step (pins_of_tiles asked set mask lines)) (behind_tiles_pins lines) files why ((same_tiles asked set mask lines files why).1 made)
            ∙ moved why fault (sym (outcome_out (step (posed_tiles asked set mask lines)) (λ (P : Network). let end : Plan (MaskView × Network) = done (mask, P) in end) files why made) ∙ is)

    out : IsFirstFault (pins_stages files asked.pins ++ masked_stages asked files) fault → IsFirstFault (masked_stages asked files) fault
    out (inl has) = absurd (order.0 fault has)
    out (inr (_, inl has)) = absurd (order.1.0 fault has)
    out (inr (_, inr (_, rest))) = rest

-- ---- all

-- what is looked at behind the choosers
abbrev asked_stages : SourceModel → RequestView → List File → List TaskStage
asked_stages (Overlap n) asked files = sample_stages asked files ++ (lines_stages asked files ++ problem_stages asked files)
asked_stages Tiles asked files = tiles_stages asked files ++ (lines_stages asked files ++ masked_stages asked files)

explained_by : (source : SourceModel) (asked : RequestView) (files : List File) → Faults (explain_plan_by source asked) files (IsFirstFault (asked_stages source asked files))
explained_by (Overlap n) asked files =
    faults_group (sample_plan asked) (behind_lesson asked) files (sample_stages asked files) (lines_stages asked files ++ problem_stages asked files) (faults_sample asked files)
    (λ lesson was.
    faults_group (lines_plan asked) (behind_lines asked lesson) files (lines_stages asked files) (problem_stages asked files) (faults_lines asked files)
    (λ lines read.
    faults_group (step (pins_of_sample asked lesson lines)) (behind_sample_pins lines) files (problem_stages asked files) [] (faults_sample_pins asked files lesson lines was (are_read asked files lines read).held)
    (λ pins made. faults_none (explain (pinned_sample pins) (line_numbers lines)) files)))
explained_by Tiles asked files =
    faults_group (tiles_plan asked) (behind_set asked) files (tiles_stages asked files) (lines_stages asked files ++ masked_stages asked files) (faults_tiles asked files)
    (λ set was.
    faults_group (lines_plan asked) (behind_tile_lines asked set) files (lines_stages asked files) (masked_stages asked files) (faults_lines asked files)
    (λ lines read. faults_tiles_pins asked files set lines was (are_read asked files lines read).held))

-- the first fault of `explain`
pub faults_explain : (kinds : List RuleKind) (asked : RequestView) (files : List File) → Faults (explain_plan kinds asked) files (IsFirstFault (explain_order kinds asked files))
faults_explain kinds asked files = by_source asked.source
  where
    by_source : (source : SourceModel) → Faults (and_then (step (enough EXPLAIN_CHOOSERS kinds asked.rule)) (λ _. explain_plan_by source asked)) files (IsFirstFault (explain_order_by source kinds asked files))
    by_source (Overlap n) =
        faults_first (step (enough EXPLAIN_CHOOSERS kinds asked.rule)) (λ _. explain_plan_by (Overlap n) asked) files (IsChooserFault EXPLAIN_CHOOSERS kinds asked.rule) (asked_stages (Overlap n) asked files)
        (faults_choosers EXPLAIN_CHOOSERS kinds asked.rule files) (λ _ found. explained_by (Overlap n) asked files)
    by_source Tiles =
        faults_first (step (enough EXPLAIN_CHOOSERS kinds asked.rule)) (λ _. explain_plan_by Tiles asked) files (IsChooserFault EXPLAIN_CHOOSERS kinds asked.rule) (asked_stages Tiles asked files)
        (faults_choosers EXPLAIN_CHOOSERS kinds asked.rule files) (λ _ found. explained_by Tiles asked files)
