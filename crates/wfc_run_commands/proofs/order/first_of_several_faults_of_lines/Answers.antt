use Rattle.std.proofs.Common.{Err, List, Ok, refl, ◌∙◌, ◌≡◌}
use Rattle.wfc_choose.specs.declared.RuleKind.{RuleKind}
use Rattle.wfc_outside.specs.Folder.{File}
use Rattle.wfc_plan.proofs.CallerLemmas.{given_choosers, ok_step, outcome_on, outcome_out}
use Rattle.wfc_plan.specs.Kinds.{HasChoosers, enough}
use Rattle.wfc_plan.specs.Plan.{done, outcome, step}
use Rattle.wfc_plan.specs.declared.fault.Fault.{Fault}
use Rattle.wfc_plan.specs.declared.fault.Fault.TheVariants.{Refused}
use Rattle.wfc_plan.specs.declared.fault.Refusal.TheVariants as refusals
use Rattle.wfc_render.specs.declared.form.Form.TheVariants.{P6}
use Rattle.wfc_run_commands.proofs.ExplainGivenLemmas.{behind_lesson, behind_lines, behind_read, behind_set, behind_tile_lines}
use Rattle.wfc_run_commands.proofs.order.first_of_several_faults_of_lines.Goals as goal
use Rattle.wfc_run_commands.specs.ExplainTask.{explain_plan, explain_plan_by, few_lines, lines_plan}
use Rattle.wfc_run_commands.specs.Small.{HasLineTooMany}
use Rattle.wfc_run_commands.specs.declared.explaining.TheConstants.{EXPLAIN_CHOOSERS}
use Rattle.wfc_task.proofs.CallerLemmas.{given_sample, given_tiles}
use Rattle.wfc_task.proofs.GivenLemmas.{given_pins}
use Rattle.wfc_task.specs.SamplePlans.{pins_plan, sample_plan}
use Rattle.wfc_task.specs.Small.{sample_asked, tiles_asked}
use Rattle.wfc_task.specs.TilePlans.{tiles_plan}
use Rattle.wfc_words.specs.RequestView.{RequestView}

-- where there are choosers enough, the rest decides
behind_choosers : (kinds : List RuleKind) (asked : RequestView) (files : List File) → HasChoosers EXPLAIN_CHOOSERS kinds asked.rule
    → outcome (explain_plan kinds asked) files ≡ outcome (explain_plan_by asked.source asked) files
behind_choosers kinds asked files there =
    outcome_on (step (enough EXPLAIN_CHOOSERS kinds asked.rule)) (λ _. explain_plan_by asked.source asked) files tt
    (ok_step (enough EXPLAIN_CHOOSERS kinds asked.rule) files tt (given_choosers EXPLAIN_CHOOSERS kinds asked.rule there))

-- a line too many is refused
too_many : (kinds : List RuleKind) (asked : RequestView) (files : List File) → HasLineTooMany kinds asked files → outcome (lines_plan asked) files ≡ Err (Refused (refusals.TooManyPins 65))
too_many kinds asked files has =
    outcome_on (pins_plan asked.pins) behind_read files has.lines (given_pins asked.pins files has.lines has.held)
    ∙ outcome_out (step (few_lines has.lines)) (λ _. done has.lines) files (Refused (refusals.TooManyPins 65)) (rw (has.many) refl)

pub returns-clause-lines_and_size : goal.returns-clause-lines_and_size
returns-clause-lines_and_size c = λ files lesson teaches kinds has.
    let asked = sample_asked 2 P6 in
    behind_choosers kinds asked files has.choosers
    ∙ outcome_on (sample_plan asked) (behind_lesson asked) files lesson (given_sample asked files lesson.kind lesson.patterns lesson.palette teaches)
    ∙ outcome_out (lines_plan asked) (behind_lines asked lesson) files (Refused (refusals.TooManyPins 65)) (too_many kinds asked files has)

pub returns-clause-pins_and_mask : goal.returns-clause-pins_and_mask
returns-clause-pins_and_mask c = λ files set tiles beside kinds choosers.
    behind_choosers kinds tiles_asked files choosers
    ∙ outcome_on (tiles_plan tiles_asked) (behind_set tiles_asked) files set (given_tiles tiles_asked files set tiles)
    ∙ outcome_out (lines_plan tiles_asked) (behind_tile_lines tiles_asked set) files _ (rw beside.pins_file refl)

pub returns-clause-lines_and_mask : goal.returns-clause-lines_and_mask
returns-clause-lines_and_mask c = λ files set tiles unmasked kinds has.
    behind_choosers kinds tiles_asked files has.choosers
    ∙ outcome_on (tiles_plan tiles_asked) (behind_set tiles_asked) files set (given_tiles tiles_asked files set tiles)
    ∙ outcome_out (lines_plan tiles_asked) (behind_tile_lines tiles_asked set) files (Refused (refusals.TooManyPins 65)) (too_many kinds tiles_asked files has)
