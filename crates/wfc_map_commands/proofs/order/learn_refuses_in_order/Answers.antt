use Rattle.wfc_map_commands.proofs.LearnOrderLemmas.{faults_learn}
use Rattle.wfc_map_commands.proofs.order.learn_refuses_in_order.Goals as goal
use Rattle.wfc_map_commands.specs.LearnOrder.{learn_order}
use Rattle.wfc_map_commands.specs.LearnTask.{learn_plan}
use Rattle.wfc_plan.proofs.CallerLemmas.{made_in_order}

pub returns-clause-refused : goal.returns-clause-refused
returns-clause-refused c = faults_learn

pub returns-clause-made : goal.returns-clause-made
returns-clause-made c = λ asked files. made_in_order (learn_plan asked) files (learn_order asked files) (faults_learn asked files)
