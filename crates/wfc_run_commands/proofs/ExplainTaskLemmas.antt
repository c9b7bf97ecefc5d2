-- Where the task of `explain` is given, the command comes to it.
use Rattle.std.proofs.Common.{Bool, List, Ok, Result, ap, arith, false, length, nat_lt, refl, sym, ◌∙◌, ◌≡◌, ◌≤◌}
use Rattle.std.proofs.lemmas.Bool.Decides.{nat_tests}
use Rattle.wfc_choose.specs.declared.RuleKind.{RuleKind}
use Rattle.wfc_explain.specs.Problems.{SamplePins, TilesPins, sample_pins, tiles_pins}
use Rattle.wfc_model.specs.Legal.{Pin}
use Rattle.wfc_outside.specs.Folder.{File}
use Rattle.wfc_overlap.specs.Bridge.{IsRoom, window_pair_count}
use Rattle.wfc_overlap.specs.Built as overlap
use Rattle.wfc_overlap.specs.Sample.{Output}
use Rattle.wfc_pattern.specs.Patterns.{PatternsView}
use Rattle.wfc_picture.specs.declared.symbol.Symbol.{Symbol}
use Rattle.wfc_pins.specs.PinView.{PinView}
use Rattle.wfc_plan.proofs.CallerLemmas.{given_choosers, ok_refused, ok_step, outcome_on, within_limit}
use Rattle.wfc_plan.specs.Kinds.{enough}
use Rattle.wfc_plan.specs.Plan.{done, outcome, step}
use Rattle.wfc_plan.specs.declared.fault.Fault.{Fault}
use Rattle.wfc_plan.specs.declared.fault.Refusal.TheVariants.{Build}
use Rattle.wfc_problem.specs.Network.{Network}
use Rattle.wfc_problem.specs.declared.TheConstants.{MAX_PAIRS}
use Rattle.wfc_run_commands.proofs.ExplainGivenLemmas.{behind_lesson, behind_lines, behind_mask_of, behind_read, behind_sample_pins, behind_set, behind_tile_lines, behind_tiles_pins}
use Rattle.wfc_run_commands.specs.ExplainGiven.{IsExplainTask, pin_lines_by, pinned_by}
use Rattle.wfc_run_commands.specs.ExplainTask.{ExplainTask, explain, explain_plan, explain_plan_by, few_lines, line_numbers, lines_plan, pins_of_sample, pins_of_tiles}
use Rattle.wfc_run_commands.specs.declared.explaining.TheConstants.{EXPLAIN_CHOOSERS, MAX_LINES}
use Rattle.wfc_task.proofs.CallerLemmas.{given_sample, given_tiles}
use Rattle.wfc_task.proofs.GivenLemmas.{given_pins}
use Rattle.wfc_task.proofs.TileGivenLemmas.{given_mask}
use Rattle.wfc_task.specs.Given.{HoldsPins}
use Rattle.wfc_task.specs.Maps.{asked_output}
use Rattle.wfc_task.specs.Posed.{PosedBy}
use Rattle.wfc_task.specs.SamplePlans.{pins_plan, sample_plan}
use Rattle.wfc_task.specs.TilePlans.{mask_plan, tiles_plan}
use Rattle.wfc_task.specs.declared.lesson.Taught.{Taught}
use Rattle.wfc_tiled.specs.Built as tiled
use Rattle.wfc_tiled.specs.Mask.{MaskView}
use Rattle.wfc_tileset.specs.Tiles.{TileSetView}
use Rattle.wfc_words.specs.RequestView.{RequestView}
use Rattle.wfc_words.specs.declared.kinds.SourceModel.{SourceModel}
use Rattle.wfc_words.specs.declared.kinds.SourceModel.TheVariants.{Overlap, Tiles}

-- few lines of the pins file are read
given_lines : (asked : RequestView) (files : List File) (lines : List PinView) → HoldsPins files asked.pins lines → length lines ≤ MAX_LINES → outcome (lines_plan asked) files ≡ Ok lines
given_lines asked files lines held few =
    outcome_on (pins_plan asked.pins) behind_read files lines (given_pins asked.pins files lines held)
    ∙ outcome_on (step (few_lines lines)) (λ _. done lines) files tt (ok_step (few_lines lines) files tt (within_limit (length lines) MAX_LINES _ few))

-- pins that are meant, where there is room, are those of a sample
given_sample_pins : (patterns : PatternsView) (palette : List Symbol) (output : Output) (lines : List PinView) (pins : List Pin) → IsRoom patterns output
    → overlap.picture_pins (overlap.texts_of palette) output.width output.height lines ≡ Ok pins
    → sample_pins patterns palette output lines ≡ Ok (record { patterns = patterns; output = output; pins = pins })
given_sample_pins patterns palette output lines pins room meant =
    let wide : nat_lt output.width patterns.n ≡ false = grind (arith, nat_tests, room.wide) in
    let high : nat_lt output.height patterns.n ≡ false = grind (arith, nat_tests, room.high) in
    let few : nat_lt MAX_PAIRS (window_pair_count patterns output) ≡ false = grind (arith, nat_tests, room.few_pairs) in
    rw (wide, high, few, meant) refl

-- and those of a tile set
given_tile_pins : (set : TileSetView) (mask : MaskView) (wrap : Bool) (lines : List PinView) (pins : List Pin) → tiled.tile_pair_count set mask ≤ MAX_PAIRS
    → tiled.tile_map_pins set.tiles mask lines ≡ Ok pins
    → tiles_pins set mask wrap lines ≡ Ok (record { tiles = set; mask = mask; wrap = wrap; pins = pins })
given_tile_pins set mask wrap lines pins room meant =
    let few : nat_lt MAX_PAIRS (tiled.tile_pair_count set mask) ≡ false = grind (arith, nat_tests, room) in
    rw (few, meant) refl

-- so of the task over the problem of a request
given_by : (source : SourceModel) (asked : RequestView) (files : List File) (P : Network) (posed : PosedBy source asked files P) → length (pin_lines_by source asked files P posed) ≤ MAX_LINES
    → outcome (explain_plan_by source asked) files ≡ Ok (explain (pinned_by source asked files P posed) (line_numbers (pin_lines_by source asked files P posed)))
given_by (Overlap n) asked files P of few =
    let lines = of.problem.lines in
    let lesson : Taught = record { kind = of.kind; palette = of.palette; patterns = of.patterns } in
    let s : SamplePins = record { patterns = of.patterns; output = asked_output asked; pins = of.problem.pins } in
    outcome_on (sample_plan asked) (behind_lesson asked) files lesson (given_sample asked files of.kind of.patterns of.palette of.sample)
    ∙ outcome_on (lines_plan asked) (behind_lines asked lesson) files lines (given_lines asked files lines of.problem.held few)
    ∙ outcome_on (step (pins_of_sample asked lesson lines)) (behind_sample_pins lines) files s
    (ok_step (pins_of_sample asked lesson lines) files s
    (ok_refused Build (sample_pins of.patterns of.palette (asked_output asked) lines) s (given_sample_pins of.patterns of.palette (asked_output asked) lines of.problem.pins of.problem.room of.problem.meant)))
given_by Tiles asked files P of few =
    let lines = of.problem.lines in
    let s : TilesPins = record { tiles = of.set; mask = of.mask; wrap = asked.wrap_out; pins = of.problem.pins } in
    outcome_on (tiles_plan asked) (behind_set asked) files of.set (given_tiles asked files of.set of.tiles)
    ∙ outcome_on (lines_plan asked) (behind_tile_lines asked of.set) files lines (given_lines asked files lines of.problem.held few)
    ∙ outcome_on (mask_plan asked) (behind_mask_of asked of.set lines) files of.mask (given_mask asked files asked.mask of.mask of.problem.masked)
    ∙ outcome_on (step (pins_of_tiles asked of.set of.mask lines)) (behind_tiles_pins lines) files s
    (ok_step (pins_of_tiles asked of.set of.mask lines) files s
    (ok_refused Build (tiles_pins of.set of.mask asked.wrap_out lines) s (given_tile_pins of.set of.mask asked.wrap_out lines of.problem.pins of.problem.few_pairs of.problem.meant)))

pub given_explain : (kinds : List RuleKind) (asked : RequestView) (files : List File) (task : ExplainTask) → IsExplainTask kinds asked files task → outcome (explain_plan kinds asked) files ≡ Ok task
given_explain kinds asked files task given =
    outcome_on (step (enough EXPLAIN_CHOOSERS kinds asked.rule)) (λ _. explain_plan_by asked.source asked) files tt
    (ok_step (enough EXPLAIN_CHOOSERS kinds asked.rule) files tt (given_choosers EXPLAIN_CHOOSERS kinds asked.rule given.choosers))
    ∙ given_by asked.source asked files given.P given.posed given.few
    ∙ ap (λ (t : ExplainTask). let end : Result ExplainTask Fault = Ok t in end) (sym given.is)
