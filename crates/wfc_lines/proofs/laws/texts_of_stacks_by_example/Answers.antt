use Rattle.std.proofs.Common.{refl}
use Rattle.std.specs.Fmt.{digits}
use Rattle.wfc_lines.proofs.laws.texts_of_stacks_by_example.Goals as goal

pub returns-clause-table : goal.returns-clause-table
unfolding digits
returns-clause-table c = refl

pub returns-clause-missing : goal.returns-clause-missing
unfolding digits
returns-clause-missing c = refl

pub returns-clause-no_text : goal.returns-clause-no_text
unfolding digits
returns-clause-no_text c = refl

pub returns-clause-tile : goal.returns-clause-tile
unfolding digits
returns-clause-tile c = refl

pub returns-clause-turn : goal.returns-clause-turn
unfolding digits
returns-clause-turn c = refl
