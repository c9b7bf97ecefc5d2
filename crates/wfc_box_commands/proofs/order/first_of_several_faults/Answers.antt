use Rattle.std.proofs.Common.{Err, List, None, Ok, Some, ap, arith, nat_lt, refl, true, ◌*◌, ◌∙◌, ◌≡◌, ◌≤◌}
use Rattle.std.proofs.lemmas.Bool.Decides.{nat_tests}
use Rattle.wfc_box.specs.BoxText.{box_form_for, box_layout_in, box_pixels_of}
use Rattle.wfc_box.specs.Built.{box_pairs}
use Rattle.wfc_box_commands.proofs.BoxGivenLemmas.{given_box_set}
use Rattle.wfc_box_commands.proofs.BoxPlanLemmas.{behind_box_layout, behind_box_problem, behind_stacked_set}
use Rattle.wfc_box_commands.proofs.order.first_of_several_faults.Goals as goal
use Rattle.wfc_box_commands.specs.BoxGiven.{IsStackedSetOf}
use Rattle.wfc_box_commands.specs.BoxPlans.{StackedSet, box_plan, box_problem_plan, stacked_plan}
use Rattle.wfc_box_commands.specs.BoxProofs.{box_proofs}
use Rattle.wfc_box_commands.specs.BoxSteps.{box_form, frame_asked}
use Rattle.wfc_box_commands.specs.Small.{box_filled_by_one, box_laid, large_box, pairs_fault, pictured_box}
use Rattle.wfc_outside.specs.Folder.{File}
use Rattle.wfc_picture.specs.declared.symbol.Kind.{Kind}
use Rattle.wfc_picture.specs.declared.symbol.Kind.TheVariants as kinds
use Rattle.wfc_plan.proofs.CallerLemmas.{ok_refused, ok_step, outcome_on, outcome_out}
use Rattle.wfc_plan.specs.Plan.{or_refuse, outcome, step}
use Rattle.wfc_plan.specs.declared.fault.Fault.{Fault}
use Rattle.wfc_plan.specs.declared.fault.Fault.TheVariants.{Refused}
use Rattle.wfc_plan.specs.declared.fault.Refusal.TheVariants as refusals
use Rattle.wfc_proof_commands.proofs.CallerLemmas.{behind_checked_problem, behind_refuted}
use Rattle.wfc_render.specs.declared.form.Form.{Form}
use Rattle.wfc_render.specs.declared.form.Form.TheVariants.{P6}
use Rattle.wfc_render.specs.declared.form.RenderFault.TheVariants.{FormDiffers}
use Rattle.wfc_task.proofs.CallerLemmas.{set_is}
use Rattle.wfc_tileset.proofs.CallerLemmas.{few_tiles}
use Rattle.wfc_tileset.specs.Pictures.{kind_of, side_of}
use Rattle.wfc_tileset.specs.Tiles.{variant_total}

-- behind a tile set with its stacks and its layout the fault is that of the pins and the problem
behind_laid : (files : List File) (made : StackedSet) (form : Form) (tiles : IsStackedSetOf large_box files made) (laid : box_laid large_box made ≡ Ok form) (fault : Fault) → outcome (box_problem_plan large_box made) files ≡ Err fault → box_filled_by_one large_box files ≡ Err fault
behind_laid files made form tiles laid fault is =
    outcome_on (stacked_plan large_box) (behind_stacked_set large_box) files made (given_box_set large_box files made tiles)
    ∙ outcome_on (step (box_form made.0 large_box)) (behind_box_layout large_box made) files form (ok_step (box_form made.0 large_box) files form (ok_refused refusals.Render (box_laid large_box made) form laid))
    ∙ outcome_out (box_problem_plan large_box made) (behind_box_problem made form) files fault is

-- and where no box is written that of the pins and the problem alone
behind_stacks : (files : List File) (made : StackedSet) (tiles : IsStackedSetOf pictured_box files made) (fault : Fault) → outcome (box_problem_plan pictured_box made) files ≡ Err fault → outcome (box_plan pictured_box) files ≡ Err fault
behind_stacks files made tiles fault is = outcome_on (stacked_plan pictured_box) (box_problem_plan pictured_box) files made (given_box_set pictured_box files made tiles) ∙ is

-- the large box has too many pairs, whatever its tile set is
many_pairs : (files : List File) (made : StackedSet) (tiles : IsStackedSetOf large_box files made) → nat_lt 8388608 (box_pairs made.0 (frame_asked large_box)) ≡ true
many_pairs files made tiles =
    let some : 1 ≤ variant_total made.0.tiles = omega (arith, few_tiles made.0.tiles, (set_is large_box files made.0 tiles.tiles).some_tile) in
    let count : box_pairs made.0 (frame_asked large_box) ≡ 16777216 * variant_total made.0.tiles = refl in
    grind (arith, nat_tests, some, count)

-- no kind of a box's text has the form P6
no_picture : (kind : Kind) → box_form_for kind (Some P6) ≡ None
no_picture kinds.Grid = refl
no_picture (kinds.Ppm maxval) = refl
no_picture kinds.Plain = refl

pub returns-clause-layout_and_pins : goal.returns-clause-layout_and_pins
returns-clause-layout_and_pins c = λ files made tiles beside.
    outcome_on (stacked_plan pictured_box) (behind_stacked_set pictured_box) files made (given_box_set pictured_box files made tiles)
    ∙ outcome_out (step (box_form made.0 pictured_box)) (behind_box_layout pictured_box made) files (Refused (refusals.Render FormDiffers))
    (ap (λ form. outcome (step (or_refuse refusals.Render (box_layout_in form (box_pixels_of 2 1 3 (side_of made.0.pictures))))) files) (no_picture (kind_of made.0.pictures)))

pub returns-clause-pins_and_size : goal.returns-clause-pins_and_size
returns-clause-pins_and_size c = λ files made form tiles laid beside. behind_laid files made form tiles laid _ (rw beside.pins_file refl)

pub returns-clause-lines_and_size : goal.returns-clause-lines_and_size
returns-clause-lines_and_size c = λ files made form tiles laid beside. behind_laid files made form tiles laid _ (rw beside.pins_file refl)

pub returns-clause-size_and_pin : goal.returns-clause-size_and_pin
returns-clause-size_and_pin c = λ files made form tiles laid beside.
    behind_laid files made form tiles laid (pairs_fault large_box made) (rw (beside.pins_file, many_pairs files made tiles) refl)

pub returns-clause-refute : goal.returns-clause-refute
returns-clause-refute c = λ files made tiles beside. outcome_out (box_plan pictured_box) behind_refuted files _ (behind_stacks files made tiles _ (rw beside.pins_file refl))

pub returns-clause-check : goal.returns-clause-check
returns-clause-check c = λ files made tiles beside. outcome_out (box_plan pictured_box) (behind_checked_problem box_proofs pictured_box) files _ (behind_stacks files made tiles _ (rw beside.pins_file refl))
