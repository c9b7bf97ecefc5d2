use Rattle.std.proofs.Common.{refl}
use Rattle.std.specs.Fmt.{digits}
use Rattle.wfc_overlap.proofs.examples.lines_by_symbols.Goals as goal

pub returns-clause-texts : goal.returns-clause-texts
unfolding digits
returns-clause-texts c = refl

pub returns-clause-banned : goal.returns-clause-banned
unfolding digits
returns-clause-banned c = refl
