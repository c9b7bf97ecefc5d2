-- What `explain` comes to.
use Rattle.std.proofs.Common.{Bool, Err, List, Ok, Result, ap, cond, false, inl, inr, length, nat_lt, refl, subst, sym, true, ◌||◌, ◌∙◌, ◌≡◌, ◌≤◌}
use Rattle.std.proofs.lemmas.Bool.{ltb-false, or_parts}
use Rattle.std.specs.Prelude.{IfOk}
use Rattle.wfc_choose.specs.declared.RuleKind.{RuleKind}
use Rattle.wfc_explain.proofs.ProblemLemmas.{sample_as_many, tiles_as_many}
use Rattle.wfc_explain.specs.Problems.{SamplePins, TilesPins, pinned_sample, pinned_tiles, sample_pins, tiles_pins}
use Rattle.wfc_model.specs.Legal.{Pin}
use Rattle.wfc_outside.specs.Folder.{File}
use Rattle.wfc_outside.specs.Gives.{Gives, result_map}
use Rattle.wfc_overlap.specs.Bridge.{IsRoom, window_pair_count}
use Rattle.wfc_overlap.specs.Built as overlap
use Rattle.wfc_overlap.specs.Sample.{Output}
use Rattle.wfc_pattern.specs.Patterns.{PatternsView}
use Rattle.wfc_picture.specs.declared.symbol.Symbol.{Symbol}
use Rattle.wfc_pins.specs.PinView.{PinView}
use Rattle.wfc_pins.specs.declared.fault.BuildFault.{BuildFault}
use Rattle.wfc_pins.specs.declared.fault.BuildFault.TheVariants.{NoMemory, SizeBelowN, TooLarge}
use Rattle.wfc_plan.proofs.CallerLemmas.{IsStepEnd, choosers_given, done_is, outcome_parts, step_is, step_ok, unless_above, unrefused}
use Rattle.wfc_plan.specs.Kinds.{enough}
use Rattle.wfc_plan.specs.Plan.{Plan, and_then, done, outcome, step}
use Rattle.wfc_plan.specs.declared.fault.Refusal.{Refusal}
use Rattle.wfc_plan.specs.declared.fault.Refusal.TheVariants.{Build}
use Rattle.wfc_problem.specs.Network.{Network}
use Rattle.wfc_problem.specs.declared.TheConstants.{MAX_PAIRS}
use Rattle.wfc_run_commands.specs.ExplainGiven.{IsExplainTask, pin_lines_by, pinned_by}
use Rattle.wfc_run_commands.specs.ExplainTask.{ExplainTask, explain, explain_plan, explain_plan_by, few_lines, line_numbers, lines_plan, pins_of_sample, pins_of_tiles}
use Rattle.wfc_run_commands.specs.declared.explaining.TheConstants.{EXPLAIN_CHOOSERS, MAX_LINES}
use Rattle.wfc_task.proofs.CallerLemmas.{sample_given, tiles_given}
use Rattle.wfc_task.proofs.GivenLemmas.{pins_given}
use Rattle.wfc_task.proofs.TileGivenLemmas.{mask_given}
use Rattle.wfc_task.specs.Maps.{asked_output}
use Rattle.wfc_task.specs.Posed.{PosedBy}
use Rattle.wfc_task.specs.SamplePlans.{pins_plan, sample_plan}
use Rattle.wfc_task.specs.TilePlans.{mask_plan, tiles_plan}
use Rattle.wfc_task.specs.declared.lesson.Taught.{Taught}
use Rattle.wfc_tiled.specs.Built as tiled
use Rattle.wfc_tiled.specs.Mask.{MaskView}
use Rattle.wfc_tileset.specs.Tiles.{TileSetView}
use Rattle.wfc_words.specs.RequestView.{RequestView}
use Rattle.wfc_words.specs.declared.kinds.SourceModel.{SourceModel}
use Rattle.wfc_words.specs.declared.kinds.SourceModel.TheVariants.{Overlap, Tiles}

-- ---- what follows each step

-- the lines that were read, and then counted
abbrev pub behind_read : List PinView → Plan (List PinView)
behind_read lines = and_then (step (few_lines lines)) (λ _. done lines)

-- of a sample
abbrev pub behind_sample_pins : List PinView → SamplePins → Plan ExplainTask
behind_sample_pins lines pins = done (explain (pinned_sample pins) (line_numbers lines))

abbrev pub behind_lines : RequestView → Taught → List PinView → Plan ExplainTask
behind_lines asked lesson lines = and_then (step (pins_of_sample asked lesson lines)) (behind_sample_pins lines)

abbrev pub behind_lesson : RequestView → Taught → Plan ExplainTask
behind_lesson asked lesson = and_then (lines_plan asked) (behind_lines asked lesson)

-- of a tile set
abbrev pub behind_tiles_pins : List PinView → TilesPins → Plan ExplainTask
behind_tiles_pins lines pins = done (explain (pinned_tiles pins) (line_numbers lines))

abbrev pub behind_mask_of : RequestView → TileSetView → List PinView → MaskView → Plan ExplainTask
behind_mask_of asked set lines mask = and_then (step (pins_of_tiles asked set mask lines)) (behind_tiles_pins lines)

abbrev pub behind_tile_lines : RequestView → TileSetView → List PinView → Plan ExplainTask
behind_tile_lines asked set lines = and_then (mask_plan asked) (behind_mask_of asked set lines)

abbrev pub behind_set : RequestView → TileSetView → Plan ExplainTask
behind_set asked set = and_then (lines_plan asked) (behind_tile_lines asked set)

-- ---- the lines

pub record AreRead (asked : RequestView) (files : List File) (lines : List PinView) : Type 0 where
  pub held : outcome (pins_plan asked.pins) files ≡ Ok lines
  pub few : length lines ≤ MAX_LINES

pub are_read : (asked : RequestView) (files : List File) (lines : List PinView) → outcome (lines_plan asked) files ≡ Ok lines → AreRead asked files lines
are_read asked files lines is =
    let found = outcome_parts (pins_plan asked.pins) behind_read files lines is in
    let counted = outcome_parts (step (few_lines found.0)) (λ _. done found.0) files lines found.2 in
    let same : found.0 ≡ lines = done_is found.0 lines files counted.2 in
    record {
      held = found.1 ∙ ap (λ (ls : List PinView). let end : Result (List PinView) _ = Ok ls in end) same;
      few = subst (λ (ls : List PinView). length ls ≤ MAX_LINES) same (unless_above (length found.0) MAX_LINES _ counted.0 (step_ok (few_lines found.0) files counted.0 counted.1));
    }

-- ---- pins that were found

-- what holds where the pins of a sample are found
pub record IsFoundSample (patterns : PatternsView) (palette : List Symbol) (output : Output) (lines : List PinView) (s : SamplePins) : Type 0 where
  pub room : IsRoom patterns output
  pub meant : overlap.picture_pins (overlap.texts_of palette) output.width output.height lines ≡ Ok s.pins
  pub is : s ≡ record { patterns = patterns; output = output; pins = s.pins }

pub found_sample : (patterns : PatternsView) (palette : List Symbol) (output : Output) (lines : List PinView) (s : SamplePins) → sample_pins patterns palette output lines ≡ Ok s → IsFoundSample patterns palette output lines s
found_sample patterns palette output lines s is =
    by_case (nat_lt output.width patterns.n || nat_lt output.height patterns.n) (nat_lt MAX_PAIRS (window_pair_count patterns output)) (overlap.picture_pins (overlap.texts_of palette) output.width output.height lines) refl refl refl is
  where
    made : List Pin → SamplePins
    made pins = record { patterns = patterns; output = output; pins = pins }

    by_case : (b c : Bool) (r : Result (List Pin) BuildFault) → (nat_lt output.width patterns.n || nat_lt output.height patterns.n) ≡ b → nat_lt MAX_PAIRS (window_pair_count patterns output) ≡ c
        → overlap.picture_pins (overlap.texts_of palette) output.width output.height lines ≡ r
        → result_map made (cond b (Err SizeBelowN) (cond c (Err (TooLarge (window_pair_count patterns output))) r)) ≡ Ok s → IsFoundSample patterns palette output lines s
    by_case true c r b_is c_is r_is e = cc
    by_case false true r b_is c_is r_is e = cc
    by_case false false (Err fault) b_is c_is r_is e = cc
    by_case false false (Ok pins) b_is c_is r_is e =
        let same : s ≡ made pins = cc in
        let sides = or_parts (nat_lt output.width patterns.n) (nat_lt output.height patterns.n) b_is in
        record {
          room = record { wide = ltb-false output.width patterns.n sides.0; high = ltb-false output.height patterns.n sides.1; few_pairs = ltb-false MAX_PAIRS (window_pair_count patterns output) c_is };
          meant = r_is ∙ ap (λ (t : SamplePins). let end : Result (List Pin) BuildFault = Ok t.pins in end) (sym same);
          is = same ∙ ap (λ (t : SamplePins). made t.pins) (sym same);
        }

-- and of a tile set
pub record IsFoundTiles (set : TileSetView) (mask : MaskView) (wrap : Bool) (lines : List PinView) (s : TilesPins) : Type 0 where
  pub few_pairs : tiled.tile_pair_count set mask ≤ MAX_PAIRS
  pub meant : tiled.tile_map_pins set.tiles mask lines ≡ Ok s.pins
  pub is : s ≡ record { tiles = set; mask = mask; wrap = wrap; pins = s.pins }

pub found_tiles : (set : TileSetView) (mask : MaskView) (wrap : Bool) (lines : List PinView) (s : TilesPins) → tiles_pins set mask wrap lines ≡ Ok s → IsFoundTiles set mask wrap lines s
found_tiles set mask wrap lines s is = by_case (nat_lt MAX_PAIRS (tiled.tile_pair_count set mask)) (tiled.tile_map_pins set.tiles mask lines) refl refl is
  where
    made : List Pin → TilesPins
    made pins = record { tiles = set; mask = mask; wrap = wrap; pins = pins }

    by_case : (c : Bool) (r : Result (List Pin) BuildFault) → nat_lt MAX_PAIRS (tiled.tile_pair_count set mask) ≡ c → tiled.tile_map_pins set.tiles mask lines ≡ r
        → result_map made (cond c (Err (TooLarge (tiled.tile_pair_count set mask))) r) ≡ Ok s → IsFoundTiles set mask wrap lines s
    by_case true r c_is r_is e = cc
    by_case false (Err fault) c_is r_is e = cc
    by_case false (Ok pins) c_is r_is e =
        let same : s ≡ made pins = cc in
        record {
          few_pairs = ltb-false MAX_PAIRS (tiled.tile_pair_count set mask) c_is;
          meant = r_is ∙ ap (λ (t : TilesPins). let end : Result (List Pin) BuildFault = Ok t.pins in end) (sym same);
          is = same ∙ ap (λ (t : TilesPins). made t.pins) (sym same);
        }

-- a value that is given is the one wanted
pub given_pins : {T : Type 0} (wanted : Result T BuildFault) (value : T) → Gives NoMemory (λ (pins : T). pins) (Ok value) wanted → wanted ≡ Ok value
given_pins wanted value (inl same) = sym same
given_pins wanted value (inr short) = absurd (cc (short))

-- there is a pin for each line
pub sample_many : (asked : RequestView) (lesson : Taught) (lines : List PinView) (result : Result SamplePins Refusal) → IsStepEnd (pins_of_sample asked lesson lines) result → IfOk result (λ (s : SamplePins). length s.pins ≡ length lines)
sample_many asked lesson lines (Err why) gives = tt
sample_many asked lesson lines (Ok s) gives =
    sample_as_many lesson.patterns lesson.palette (asked_output asked) lines s
    (unrefused Build (sample_pins lesson.patterns lesson.palette (asked_output asked) lines) s (step_is (pins_of_sample asked lesson lines) s gives))

pub tiles_many : (asked : RequestView) (set : TileSetView) (mask : MaskView) (lines : List PinView) (result : Result TilesPins Refusal) → IsStepEnd (pins_of_tiles asked set mask lines) result → IfOk result (λ (s : TilesPins). length s.pins ≡ length lines)
tiles_many asked set mask lines (Err why) gives = tt
tiles_many asked set mask lines (Ok s) gives =
    tiles_as_many set mask asked.wrap_out lines s
    (unrefused Build (tiles_pins set mask asked.wrap_out lines) s (step_is (pins_of_tiles asked set mask lines) s gives))

-- ---- tasks

-- the task is of the problem of a request, whose lines are few
record IsTaskBy (source : SourceModel) (asked : RequestView) (files : List File) (task : ExplainTask) : Type 0 where
  P : Network
  posed : PosedBy source asked files P
  few : length (pin_lines_by source asked files P posed) ≤ MAX_LINES
  is : task ≡ explain (pinned_by source asked files P posed) (line_numbers (pin_lines_by source asked files P posed))

task_by : (source : SourceModel) (asked : RequestView) (files : List File) (task : ExplainTask) → outcome (explain_plan_by source asked) files ≡ Ok task → IsTaskBy source asked files task
task_by (Overlap n) asked files task is =
    let taught = outcome_parts (sample_plan asked) (behind_lesson asked) files task is in
    let lesson = taught.0 in
    let read = outcome_parts (lines_plan asked) (behind_lines asked lesson) files task taught.2 in
    let lines = read.0 in
    let pinned = outcome_parts (step (pins_of_sample asked lesson lines)) (behind_sample_pins lines) files task read.2 in
    let s = pinned.0 in
    let found = found_sample lesson.patterns lesson.palette (asked_output asked) lines s
    (unrefused Build (sample_pins lesson.patterns lesson.palette (asked_output asked) lines) s (step_ok (pins_of_sample asked lesson lines) files s pinned.1)) in
    let are = are_read asked files lines read.1 in
    record {
      P = _;
      posed = record {
        kind = lesson.kind;
        patterns = lesson.patterns;
        palette = lesson.palette;
        sample = sample_given asked files lesson taught.1;
        problem = record { lines = lines; held = pins_given asked.pins files lines are.held; room = found.room; pins = s.pins; meant = found.meant; problem = refl };
      };
      few = are.few;
      is = sym (done_is (explain (pinned_sample s) (line_numbers lines)) task files pinned.2)
          ∙ ap (λ (t : SamplePins). explain (pinned_sample t) (line_numbers lines)) found.is;
    }
task_by Tiles asked files task is =
    let spelled = outcome_parts (tiles_plan asked) (behind_set asked) files task is in
    let set = spelled.0 in
    let read = outcome_parts (lines_plan asked) (behind_tile_lines asked set) files task spelled.2 in
    let lines = read.0 in
    let masked = outcome_parts (mask_plan asked) (behind_mask_of asked set lines) files task read.2 in
    let mask = masked.0 in
    let pinned = outcome_parts (step (pins_of_tiles asked set mask lines)) (behind_tiles_pins lines) files task masked.2 in
    let s = pinned.0 in
    let found = found_tiles set mask asked.wrap_out lines s
    (unrefused Build (tiles_pins set mask asked.wrap_out lines) s (step_ok (pins_of_tiles asked set mask lines) files s pinned.1)) in
    let are = are_read asked files lines read.1 in
    record {
      P = _;
      posed = record {
        set = set;
        tiles = tiles_given asked files set spelled.1;
        mask = mask;
        problem = record {
          lines = lines;
          held = pins_given asked.pins files lines are.held;
          masked = mask_given asked files asked.mask mask masked.1;
          few_pairs = found.few_pairs;
          pins = s.pins;
          meant = found.meant;
          problem = refl;
        };
      };
      few = are.few;
      is = sym (done_is (explain (pinned_tiles s) (line_numbers lines)) task files pinned.2)
          ∙ ap (λ (t : TilesPins). explain (pinned_tiles t) (line_numbers lines)) found.is;
    }

pub explain_given : (kinds : List RuleKind) (asked : RequestView) (files : List File) (task : ExplainTask) → outcome (explain_plan kinds asked) files ≡ Ok task → IsExplainTask kinds asked files task
explain_given kinds asked files task is =
    let chosen = outcome_parts (step (enough EXPLAIN_CHOOSERS kinds asked.rule)) (λ _. explain_plan_by asked.source asked) files task is in
    let by = task_by asked.source asked files task chosen.2 in
    record {
      choosers = choosers_given EXPLAIN_CHOOSERS kinds asked.rule chosen.0 (step_ok (enough EXPLAIN_CHOOSERS kinds asked.rule) files chosen.0 chosen.1);
      P = by.P;
      posed = by.posed;
      few = by.few;
      is = by.is;
    }
