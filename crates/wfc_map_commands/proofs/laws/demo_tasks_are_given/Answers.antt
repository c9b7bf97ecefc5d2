use Rattle.wfc_map_commands.proofs.DemoOrderLemmas.{given_demo}
use Rattle.wfc_map_commands.proofs.laws.demo_tasks_are_given.Goals as goal

pub returns : goal.returns
returns c = record { task = given_demo }
