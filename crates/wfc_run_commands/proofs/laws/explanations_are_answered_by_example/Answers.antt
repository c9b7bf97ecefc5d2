use Rattle.std.proofs.Common.{refl}
use Rattle.std.specs.Fmt.{digits}
use Rattle.wfc_run_commands.proofs.laws.explanations_are_answered_by_example.Goals as goal

pub returns-clause-core : goal.returns-clause-core
unfolding digits
returns-clause-core c = refl
