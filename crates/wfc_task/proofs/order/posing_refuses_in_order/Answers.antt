use Rattle.wfc_plan.proofs.CallerLemmas.{made_in_order}
use Rattle.wfc_task.proofs.PosedOrderLemmas.{faults_posed}
use Rattle.wfc_task.proofs.order.posing_refuses_in_order.Goals as goal
use Rattle.wfc_task.specs.Posed.{posed_plan}
use Rattle.wfc_task.specs.PosedOrder.{posed_order}

pub returns-clause-refused : goal.returns-clause-refused
returns-clause-refused c = faults_posed

pub returns-clause-made : goal.returns-clause-made
returns-clause-made c = λ asked files. made_in_order (posed_plan asked) files (posed_order asked files) (faults_posed asked files)
