-- What `box-fill` comes to over told files, in the subject's words.
use Rattle.std.proofs.Common.{List, Ok, Result, ap, ◌∙◌, ◌≡◌}
use Rattle.wfc_box.specs.BoxText.{box_layout_of}
use Rattle.wfc_box_commands.proofs.BoxGivenLemmas.{box_problem_given, box_set_given, given_box_problem, given_box_set}
use Rattle.wfc_box_commands.proofs.BoxPlanLemmas.{behind_box_layout, behind_box_problem, behind_stacked_set}
use Rattle.wfc_box_commands.specs.BoxFillGiven.{IsBoxFillTask}
use Rattle.wfc_box_commands.specs.BoxFillTask.{BoxFillTask, box_fill_plan, box_filling_plan}
use Rattle.wfc_box_commands.specs.BoxPlans.{box_problem_plan, stacked_plan}
use Rattle.wfc_box_commands.specs.BoxSteps.{box_form}
use Rattle.wfc_choose.specs.declared.RuleKind.{RuleKind}
use Rattle.wfc_outside.specs.Folder.{File}
use Rattle.wfc_plan.proofs.CallerLemmas.{choosers_given, done_is, given_choosers, ok_refused, ok_step, outcome_on, outcome_parts, step_ok, unrefused}
use Rattle.wfc_plan.specs.Kinds.{enough}
use Rattle.wfc_plan.specs.Plan.{outcome, step}
use Rattle.wfc_plan.specs.declared.fault.Fault.{Fault}
use Rattle.wfc_plan.specs.declared.fault.Refusal.TheVariants as refusals
use Rattle.wfc_tileset.specs.Pictures.{kind_of, side_of}
use Rattle.wfc_words.specs.RequestView.{RequestView}

pub box_fill_given : (kinds : List RuleKind) (asked : RequestView) (files : List File) (task : BoxFillTask) → outcome (box_fill_plan kinds asked) files ≡ Ok task → IsBoxFillTask kinds asked files task
box_fill_given kinds asked files task is =
    let found = outcome_parts (step (enough 1 kinds asked.rule)) (λ _. box_filling_plan asked) files task is in
    let known = outcome_parts (stacked_plan asked) (behind_stacked_set asked) files task found.2 in
    let made = known.0 in
    let written = outcome_parts (step (box_form made.0 asked)) (behind_box_layout asked made) files task known.2 in
    let posed = outcome_parts (box_problem_plan asked made) (behind_box_problem made written.0) files task written.2 in
    record {
      chooser = choosers_given 1 kinds asked.rule found.0 (step_ok (enough 1 kinds asked.rule) files found.0 found.1);
      P = posed.0;
      posed = record { made = made; tiles = box_set_given asked files made known.1; problem = box_problem_given asked files made posed.0 posed.1 };
      form = written.0;
      laid = unrefused refusals.Render (box_layout_of (kind_of made.0.pictures) asked.form asked.width asked.height asked.depth (side_of made.0.pictures)) written.0 (step_ok (box_form made.0 asked) files written.0 written.1);
      is = done_is _ task files posed.2;
    }

pub given_box_fill : (kinds : List RuleKind) (asked : RequestView) (files : List File) (task : BoxFillTask) → IsBoxFillTask kinds asked files task → outcome (box_fill_plan kinds asked) files ≡ Ok task
given_box_fill kinds asked files task given =
    let of = given.posed in
    let made = of.made in
    outcome_on (step (enough 1 kinds asked.rule)) (λ _. box_filling_plan asked) files tt (ok_step (enough 1 kinds asked.rule) files tt (given_choosers 1 kinds asked.rule given.chooser))
    ∙ outcome_on (stacked_plan asked) (behind_stacked_set asked) files made (given_box_set asked files made of.tiles)
    ∙ outcome_on (step (box_form made.0 asked)) (behind_box_layout asked made) files given.form
    (ok_step (box_form made.0 asked) files given.form (ok_refused refusals.Render (box_layout_of (kind_of made.0.pictures) asked.form asked.width asked.height asked.depth (side_of made.0.pictures)) given.form given.laid))
    ∙ outcome_on (box_problem_plan asked made) (behind_box_problem made given.form) files given.P (given_box_problem asked files made given.P of.problem)
    ∙ ap (λ t. let end : Result BoxFillTask Fault = Ok t in end) given.is
