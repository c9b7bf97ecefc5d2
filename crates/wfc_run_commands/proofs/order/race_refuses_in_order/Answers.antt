use Rattle.wfc_plan.proofs.CallerLemmas.{made_in_order}
use Rattle.wfc_run_commands.proofs.RaceOrderLemmas.{faults_race}
use Rattle.wfc_run_commands.proofs.order.race_refuses_in_order.Goals as goal
use Rattle.wfc_run_commands.specs.RaceOrder.{race_order}
use Rattle.wfc_run_commands.specs.RaceTask.{race_plan}

pub returns-clause-refused : goal.returns-clause-refused
returns-clause-refused c = faults_race

pub returns-clause-made : goal.returns-clause-made
returns-clause-made c = λ kinds asked files. made_in_order (race_plan kinds asked) files (race_order kinds asked files) (faults_race kinds asked files)
