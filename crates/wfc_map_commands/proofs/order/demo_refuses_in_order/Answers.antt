use Rattle.wfc_map_commands.proofs.DemoOrderLemmas.{faults_demo}
use Rattle.wfc_map_commands.proofs.order.demo_refuses_in_order.Goals as goal
use Rattle.wfc_map_commands.specs.DemoOrder.{demo_order}
use Rattle.wfc_map_commands.specs.DemoTask.{demo_plan}
use Rattle.wfc_plan.proofs.CallerLemmas.{made_in_order}

pub returns-clause-refused : goal.returns-clause-refused
returns-clause-refused c = faults_demo

pub returns-clause-made : goal.returns-clause-made
returns-clause-made c = λ kinds asked files. made_in_order (demo_plan kinds asked) files (demo_order kinds) (faults_demo kinds asked files)
