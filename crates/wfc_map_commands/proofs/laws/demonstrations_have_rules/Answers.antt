use Rattle.std.proofs.Common.{arith}
use Rattle.wfc_map_commands.proofs.DemonstrationLemmas.{demo_learned, demo_problem_is}
use Rattle.wfc_map_commands.proofs.laws.demonstrations_have_rules.Goals as goal
use Rattle.wfc_map_commands.specs.Demonstration.{demo_patterns}

pub returns-clause-taught : goal.returns-clause-taught
unfolding demo_patterns
returns-clause-taught c n = demo_learned n 24 (omega arith) (omega arith)

pub returns-clause-posed : goal.returns-clause-posed
returns-clause-posed c n = demo_problem_is n
