use Rattle.wfc_map_commands.proofs.FillOrderLemmas.{faults_fill}
use Rattle.wfc_map_commands.proofs.order.fill_refuses_in_order.Goals as goal
use Rattle.wfc_map_commands.specs.FillOrder.{fill_order}
use Rattle.wfc_map_commands.specs.FillTask.{fill_plan}
use Rattle.wfc_plan.proofs.CallerLemmas.{made_in_order}

pub returns-clause-refused : goal.returns-clause-refused
returns-clause-refused c = faults_fill

pub returns-clause-made : goal.returns-clause-made
returns-clause-made c = λ kinds asked files. made_in_order (fill_plan kinds asked) files (fill_order kinds asked files) (faults_fill kinds asked files)
