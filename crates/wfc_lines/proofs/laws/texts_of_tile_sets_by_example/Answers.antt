use Rattle.std.proofs.Common.{refl}
use Rattle.std.specs.Fmt.{digits}
use Rattle.wfc_lines.proofs.laws.texts_of_tile_sets_by_example.Goals as goal

pub returns-clause-missing : goal.returns-clause-missing
unfolding digits
returns-clause-missing c = refl

pub returns-clause-left : goal.returns-clause-left
unfolding digits
returns-clause-left c = refl

pub returns-clause-class : goal.returns-clause-class
unfolding digits
returns-clause-class c = refl

pub returns-clause-weight : goal.returns-clause-weight
unfolding digits
returns-clause-weight c = refl

pub returns-clause-picture : goal.returns-clause-picture
unfolding digits
returns-clause-picture c = refl

pub returns-clause-side : goal.returns-clause-side
unfolding digits
returns-clause-side c = refl

pub returns-clause-twice : goal.returns-clause-twice
unfolding digits
returns-clause-twice c = refl

pub returns-clause-unknown : goal.returns-clause-unknown
unfolding digits
returns-clause-unknown c = refl

pub returns-clause-turn : goal.returns-clause-turn
unfolding digits
returns-clause-turn c = refl

pub returns-clause-many : goal.returns-clause-many
unfolding digits
returns-clause-many c = refl

pub returns-clause-no_file : goal.returns-clause-no_file
unfolding digits
returns-clause-no_file c = refl

pub returns-clause-failed : goal.returns-clause-failed
unfolding digits
returns-clause-failed c = refl

pub returns-clause-mixed : goal.returns-clause-mixed
unfolding digits
returns-clause-mixed c = refl

pub returns-clause-name : goal.returns-clause-name
unfolding digits
returns-clause-name c = refl
