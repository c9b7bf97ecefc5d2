-- The task of `grow`: what is read and refused, in order, and what it comes to.
use Rattle.std.specs.Prelude.{List, Result}
use Rattle.wfc_blocks.specs.Blocks.{Area, area_with}
use Rattle.wfc_blocks.specs.Grown.{growable_of}
use Rattle.wfc_blocks.specs.declared.grown.GrowFault.{GrowFault}
use Rattle.wfc_blocks.specs.declared.grown.GrowFault.TheVariants as faults
use Rattle.wfc_choose.specs.declared.RuleKind.{RuleKind}
use Rattle.wfc_grow_command.specs.declared.growing.Growing.{Growing}
use Rattle.wfc_grow_command.specs.declared.growing.TheConstants.{GROW_CHOOSERS}
use Rattle.wfc_model.specs.Legal.{Pin}
use Rattle.wfc_pattern.specs.Patterns.{PatternsView}
use Rattle.wfc_picture.specs.declared.symbol.Symbol.{Symbol}
use Rattle.wfc_pins.specs.PinView.{PinView}
use Rattle.wfc_pins.specs.declared.fault.BuildFault.TheVariants as builds
use Rattle.wfc_plan.specs.Kinds.{enough}
use Rattle.wfc_plan.specs.Plan.{Plan, and_then, done, or_refuse, step}
use Rattle.wfc_plan.specs.declared.fault.Refusal.{Refusal}
use Rattle.wfc_plan.specs.declared.fault.Refusal.TheVariants as refusals
use Rattle.wfc_render.specs.declared.form.Layout.{Layout}
use Rattle.wfc_task.specs.SamplePlans.{pins_plan, sample_plan}
use Rattle.wfc_task.specs.Steps.{sample_layout}
use Rattle.wfc_task.specs.declared.lesson.Taught.{Taught}
use Rattle.wfc_words.specs.RequestView.{RequestView}

-- what `grow` works on: the patterns that a sample teaches and the palette of their numbers, how the map is written, and
-- the lines of the pins file
pub record GrowTask : Type 0 where
  pub patterns : PatternsView
  pub palette : List Symbol
  pub layout : Layout
  pub lines : List PinView

-- what the code keeps of it
abbrev pub growing_view : Growing → GrowTask
growing_view growing = record {
  patterns = growing.taught.patterns;
  palette = growing.taught.palette;
  layout = growing.layout;
  lines = growing.lines.items;
}

-- the area that is asked for, and the longest side of its blocks
abbrev pub area_asked : RequestView → Area
area_asked asked = area_with asked.width asked.height asked.block

-- a fault of growth as a refusal: but for too many blocks it is one of a problem
abbrev pub grow_refusal : GrowFault → Refusal
grow_refusal faults.SizeBelowN = refusals.Build builds.SizeBelowN
grow_refusal (faults.TooManyBlocks count) = refusals.TooManyBlocks count
grow_refusal (faults.TooLarge product) = refusals.Build (builds.TooLarge product)
grow_refusal (faults.PinOutside line) = refusals.Build (builds.PinOutside line)
grow_refusal (faults.UnknownSymbol line) = refusals.Build (builds.UnknownSymbol line)
grow_refusal faults.NoMemory = refusals.NoMemory

-- the pins by which the map is grown, or why it can't be
abbrev pub growable : RequestView → GrowTask → Result (List Pin) Refusal
growable asked task =
    or_refuse grow_refusal (growable_of task.patterns task.palette (area_asked asked) task.lines)

-- the task of what a sample teaches, of a layout and of lines
abbrev pub task_with : Taught → Layout → List PinView → GrowTask
task_with lesson layout lines =
    record { patterns = lesson.patterns; palette = lesson.palette; layout = layout; lines = lines }

-- what is read for it: the choosers are looked for before anything is, and the layout is looked at before the pins file is
abbrev pub read_plan : List RuleKind → RequestView → Plan GrowTask
read_plan kinds asked =
    and_then (step (enough GROW_CHOOSERS kinds asked.rule)) (λ _.
    and_then (sample_plan asked) (λ lesson.
    and_then (step (sample_layout lesson.kind asked)) (λ layout.
    and_then (pins_plan asked.pins) (λ lines.
    done (task_with lesson layout lines)))))

-- what is refused of what was read
abbrev pub grown_plan : RequestView → GrowTask → Plan GrowTask
grown_plan asked task = and_then (step (growable asked task)) (λ _. done task)

-- what is refused of what was read, as the code keeps it
abbrev pub growing_plan : RequestView → Growing → Plan GrowTask
growing_plan asked growing = grown_plan asked (growing_view growing)

-- what `grow` comes to
abbrev pub grow_plan : List RuleKind → RequestView → Plan GrowTask
grow_plan kinds asked = and_then (read_plan kinds asked) (λ task. grown_plan asked task)
