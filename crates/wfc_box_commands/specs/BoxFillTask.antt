-- The task of `box-fill`: what is read and refused, in order, and what it comes to.
use Rattle.std.specs.Prelude.{Err, List, Ok, Result}
use Rattle.wfc_box_commands.specs.BoxPlans.{StackedSet, box_problem_plan, stacked_plan}
use Rattle.wfc_box_commands.specs.BoxSteps.{box_form}
use Rattle.wfc_box_commands.specs.declared.filling.BoxFilling.{BoxFilling}
use Rattle.wfc_choose.specs.declared.RuleKind.{RuleKind}
use Rattle.wfc_plan.specs.Kinds.{enough}
use Rattle.wfc_plan.specs.Plan.{Plan, and_then, done, step}
use Rattle.wfc_plan.specs.declared.fault.Fault.{Fault}
use Rattle.wfc_problem.specs.Network.{Network}
use Rattle.wfc_render.specs.declared.form.Form.{Form}
use Rattle.wfc_tileset.specs.Tiles.{TileSetView}
use Rattle.wfc_words.specs.RequestView.{RequestView}

-- what `box-fill` works on
pub data BoxFillTask : Type 0 where
  box_fill : TileSetView → Form → Network → BoxFillTask

-- what `box-fill` comes to behind its chooser: the layout is looked at before the pins file is
abbrev pub box_filling_plan : RequestView → Plan BoxFillTask
box_filling_plan asked =
    and_then (stacked_plan asked) (λ (made : StackedSet).
    and_then (step (box_form made.0 asked)) (λ form.
    and_then (box_problem_plan asked made) (λ P.
    done (box_fill made.0 form P))))

-- what `box-fill` comes to: the chooser is looked for before anything is read
abbrev pub box_fill_plan : List RuleKind → RequestView → Plan BoxFillTask
box_fill_plan kinds asked = and_then (step (enough 1 kinds asked.rule)) (λ _. box_filling_plan asked)

-- what the code holds of a task, as the task
abbrev pub box_filled : BoxFilling → BoxFillTask
box_filled made = box_fill made.tiles made.form made.problem

-- what the code makes for `box-fill`, as its task, or the fault
abbrev pub box_fill_made : Result BoxFilling Fault → Result BoxFillTask Fault
box_fill_made (Ok made) = Ok (box_filled made)
box_fill_made (Err fault) = Err fault
