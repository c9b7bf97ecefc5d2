use Rattle.std.proofs.Common.{ap, arith, refl}
use Rattle.std.proofs.lemmas.Bool.{false≢true}
use Rattle.wfc_problem.specs.Network.{Network}
use Rattle.wfc_search.specs.Small.{pair, ring}
use Rattle.wfc_explain.proofs.examples.relations_by_example.Goals as goal

pub returns-clause-more : goal.returns-clause-more
returns-clause-more c fewer = false≢true (fewer 0 refl)

pub returns-clause-other : goal.returns-clause-other
unfolding pair ring
returns-clause-other c same = let cells = ap (λ (P : Network). P.cells) same in omega (arith, cells)
