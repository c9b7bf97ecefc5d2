use Rattle.std.proofs.Common.{refl}
use Rattle.std.specs.Fmt.{digits}
use Rattle.wfc_run_commands.proofs.laws.answers_by_example.Goals as goal

pub returns-clause-race : goal.returns-clause-race
unfolding digits
returns-clause-race c = refl

pub returns-clause-core : goal.returns-clause-core
unfolding digits
returns-clause-core c = refl

pub returns-clause-none : goal.returns-clause-none
unfolding digits
returns-clause-none c = refl
