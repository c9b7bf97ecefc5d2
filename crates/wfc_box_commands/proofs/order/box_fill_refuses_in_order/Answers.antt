use Rattle.wfc_box_commands.proofs.BoxOrderLemmas.{faults_box_fill}
use Rattle.wfc_box_commands.proofs.order.box_fill_refuses_in_order.Goals as goal
use Rattle.wfc_box_commands.specs.BoxFillTask.{box_fill_plan}
use Rattle.wfc_box_commands.specs.BoxOrder.{box_fill_order}
use Rattle.wfc_plan.proofs.CallerLemmas.{made_in_order}

pub returns-clause-refused : goal.returns-clause-refused
returns-clause-refused c = faults_box_fill

pub returns-clause-made : goal.returns-clause-made
returns-clause-made c = λ kinds asked files. made_in_order (box_fill_plan kinds asked) files (box_fill_order kinds asked files) (faults_box_fill kinds asked files)
