use Rattle.wfc_grow_command.proofs.GrowOrderLemmas.{faults_grow}
use Rattle.wfc_grow_command.proofs.order.grow_refuses_in_order.Goals as goal
use Rattle.wfc_grow_command.specs.GrowOrder.{grow_order}
use Rattle.wfc_grow_command.specs.GrowTask.{grow_plan}
use Rattle.wfc_plan.proofs.CallerLemmas.{made_in_order}

pub returns-clause-refused : goal.returns-clause-refused
returns-clause-refused c = faults_grow

pub returns-clause-made : goal.returns-clause-made
returns-clause-made c = λ kinds asked files. made_in_order (grow_plan kinds asked) files (grow_order kinds asked files) (faults_grow kinds asked files)
