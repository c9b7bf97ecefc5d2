use Rattle.std.proofs.Common.{refl}
use Rattle.std.specs.Fmt.{digits}
use Rattle.wfc_lines.proofs.laws.texts_of_commands_by_example.Goals as goal

pub returns-clause-budget : goal.returns-clause-budget
unfolding digits
returns-clause-budget c = refl

pub returns-clause-race : goal.returns-clause-race
unfolding digits
returns-clause-race c = refl

pub returns-clause-blocks : goal.returns-clause-blocks
unfolding digits
returns-clause-blocks c = refl

pub returns-clause-stuck : goal.returns-clause-stuck
unfolding digits
returns-clause-stuck c = refl
