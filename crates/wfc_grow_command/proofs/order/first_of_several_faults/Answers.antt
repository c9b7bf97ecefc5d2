use Rattle.std.proofs.Common.{List, Result, [], ap, codes, ◌≡◌}
use Rattle.wfc_choose.specs.declared.RuleKind.{RuleKind}
use Rattle.wfc_grow_command.proofs.GrowGivenLemmas.{behind_enough}
use Rattle.wfc_grow_command.proofs.order.first_of_several_faults.Goals as goal
use Rattle.wfc_grow_command.specs.GrowTask.{grow_plan, grown_plan}
use Rattle.wfc_grow_command.specs.Small.{blocks_asked}
use Rattle.wfc_grow_command.specs.declared.growing.TheConstants.{GROW_CHOOSERS}
use Rattle.wfc_outside.specs.Folder.{File}
use Rattle.wfc_plan.proofs.CallerLemmas.{given_choosers}
use Rattle.wfc_plan.specs.Kinds.{HasChoosers}
use Rattle.wfc_plan.specs.Plan.{and_then, outcome, step}
use Rattle.wfc_plan.specs.declared.fault.Refusal.{Refusal}
use Rattle.wfc_render.specs.declared.form.Form.TheVariants.{Grid, P6}
use Rattle.wfc_task.specs.Small.{sample_asked, with_pins, with_sample}
use Rattle.wfc_words.specs.RequestView.{RequestView}

-- where there are choosers enough, the rest decides
behind_choosers : (kinds : List RuleKind) (asked : RequestView) (files : List File) → HasChoosers GROW_CHOOSERS kinds asked.rule
    → outcome (grow_plan kinds asked) files ≡ outcome (and_then (behind_enough asked) (λ task. grown_plan asked task)) files
behind_choosers kinds asked files there =
    ap (λ (r : Result (Unit {0}) Refusal). outcome (and_then (and_then (step r) (λ _. behind_enough asked)) (λ task. grown_plan asked task)) files)
    (given_choosers GROW_CHOOSERS kinds asked.rule there)

pub returns-clause-file_and_pins : goal.returns-clause-file_and_pins
returns-clause-file_and_pins c = λ kinds there. behind_choosers kinds (sample_asked 1 P6) [] there

pub returns-clause-layout_and_pins : goal.returns-clause-layout_and_pins
returns-clause-layout_and_pins c = λ kinds there. behind_choosers kinds (sample_asked 1 P6) (with_sample []) there

pub returns-clause-pins_and_size : goal.returns-clause-pins_and_size
returns-clause-pins_and_size c = λ kinds there. behind_choosers kinds (sample_asked 2 Grid) (with_sample []) there

pub returns-clause-size_and_pin : goal.returns-clause-size_and_pin
returns-clause-size_and_pin c = λ kinds there. behind_choosers kinds (sample_asked 2 Grid) (with_pins (codes "pin 99 9 x\n")) there

pub returns-clause-blocks_and_pin : goal.returns-clause-blocks_and_pin
returns-clause-blocks_and_pin c = λ kinds there. behind_choosers kinds blocks_asked (with_pins (codes "pin 99 9 x\n")) there

pub returns-clause-pin : goal.returns-clause-pin
returns-clause-pin c = λ kinds there. behind_choosers kinds (sample_asked 1 Grid) (with_pins (codes "pin 99 9 x\n")) there
