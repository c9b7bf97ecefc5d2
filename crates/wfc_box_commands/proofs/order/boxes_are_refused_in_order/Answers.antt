use Rattle.wfc_box_commands.proofs.BoxOrderLemmas.{faults_box}
use Rattle.wfc_box_commands.proofs.order.boxes_are_refused_in_order.Goals as goal
use Rattle.wfc_box_commands.specs.BoxOrder.{box_order}
use Rattle.wfc_box_commands.specs.BoxPlans.{box_plan}
use Rattle.wfc_plan.proofs.CallerLemmas.{made_in_order}

pub returns-clause-refused : goal.returns-clause-refused
returns-clause-refused c = faults_box

pub returns-clause-made : goal.returns-clause-made
returns-clause-made c = λ asked files. made_in_order (box_plan asked) files (box_order asked files) (faults_box asked files)
