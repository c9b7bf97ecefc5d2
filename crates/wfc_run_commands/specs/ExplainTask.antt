-- The task of `explain`: what is read and refused, in order, and what it comes to.
use Rattle.std.specs.Prelude.{Err, List, Ok, Result, if◌then◌else◌, length, map, nat_le, ℕ}
use Rattle.wfc_choose.specs.declared.RuleKind.{RuleKind}
use Rattle.wfc_explain.specs.Pinned.{PinnedView}
use Rattle.wfc_explain.specs.Problems.{SamplePins, TilesPins, pinned_sample, pinned_tiles, sample_pins, tiles_pins}
use Rattle.wfc_pins.specs.PinView.{PinView}
use Rattle.wfc_plan.specs.Kinds.{enough}
use Rattle.wfc_plan.specs.Plan.{Plan, and_then, done, or_refuse, step}
use Rattle.wfc_plan.specs.declared.fault.Refusal.{Refusal}
use Rattle.wfc_plan.specs.declared.fault.Refusal.TheVariants.{Build, TooManyPins}
use Rattle.wfc_run_commands.specs.declared.explaining.TheConstants.{EXPLAIN_CHOOSERS, MAX_LINES}
use Rattle.wfc_task.specs.Maps.{asked_output}
use Rattle.wfc_task.specs.SamplePlans.{pins_plan, sample_plan}
use Rattle.wfc_task.specs.TilePlans.{mask_plan, tiles_plan}
use Rattle.wfc_task.specs.declared.lesson.Taught.{Taught}
use Rattle.wfc_tiled.specs.Mask.{MaskView}
use Rattle.wfc_tileset.specs.Tiles.{TileSetView}
use Rattle.wfc_words.specs.RequestView.{RequestView}
use Rattle.wfc_words.specs.declared.kinds.SourceModel.{SourceModel}
use Rattle.wfc_words.specs.declared.kinds.SourceModel.TheVariants.{Overlap, Tiles}

-- what `explain` works on: a problem whose lines can be left out, and the numbers of these lines in the pins file
pub data ExplainTask : Type 0 where
  explain : PinnedView → List ℕ → ExplainTask

-- the lines aren't too many
abbrev pub few_lines : List PinView → Result (Unit {0}) Refusal
few_lines lines = if nat_le (length lines) MAX_LINES then Ok tt else Err (TooManyPins (length lines))

-- the numbers of lines in their file
abbrev pub line_numbers : List PinView → List ℕ
line_numbers lines = map (λ (line : PinView). line.line) lines

-- the lines of the pins file, which aren't too many
abbrev pub lines_plan : RequestView → Plan (List PinView)
lines_plan asked = and_then (pins_plan asked.pins) (λ lines. and_then (step (few_lines lines)) (λ _. done lines))

-- what a sample teaches with the pins of these lines, where the problem of all lines is built
abbrev pub pins_of_sample : RequestView → Taught → List PinView → Result SamplePins Refusal
pins_of_sample asked lesson lines = or_refuse Build (sample_pins lesson.patterns lesson.palette (asked_output asked) lines)

-- a tile set on a mask with the pins of these lines, where the problem of all lines is built
abbrev pub pins_of_tiles : RequestView → TileSetView → MaskView → List PinView → Result TilesPins Refusal
pins_of_tiles asked set mask lines = or_refuse Build (tiles_pins set mask asked.wrap_out lines)

-- what `explain` comes to for a sample
abbrev pub explain_sample_plan : RequestView → Plan ExplainTask
explain_sample_plan asked =
    and_then (sample_plan asked) (λ lesson.
    and_then (lines_plan asked) (λ lines.
    and_then (step (pins_of_sample asked lesson lines)) (λ pins.
    done (explain (pinned_sample pins) (line_numbers lines)))))

-- and for a tile set, whose mask is read behind the pins file
abbrev pub explain_tiles_plan : RequestView → Plan ExplainTask
explain_tiles_plan asked =
    and_then (tiles_plan asked) (λ set.
    and_then (lines_plan asked) (λ lines.
    and_then (mask_plan asked) (λ mask.
    and_then (step (pins_of_tiles asked set mask lines)) (λ pins.
    done (explain (pinned_tiles pins) (line_numbers lines))))))

-- by what the map is made of
abbrev pub explain_plan_by : SourceModel → RequestView → Plan ExplainTask
explain_plan_by (Overlap n) asked = explain_sample_plan asked
explain_plan_by Tiles asked = explain_tiles_plan asked

-- what `explain` comes to: the choosers are looked for before anything is read
abbrev pub explain_plan : List RuleKind → RequestView → Plan ExplainTask
explain_plan kinds asked =
    and_then (step (enough EXPLAIN_CHOOSERS kinds asked.rule)) (λ _. explain_plan_by asked.source asked)
