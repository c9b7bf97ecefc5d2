use Rattle.std.proofs.Common.{refl, [], ◌∷◌}
use Rattle.std.proofs.lemmas.Bool.{false≢true}
use Rattle.wfc_problem.specs.Corner.{corner}
use Rattle.wfc_problem.specs.Rounds.{greatest}
use Rattle.wfc_problem.specs.declared.Literal.TheVariants.{Is}
use Rattle.wfc_problem.proofs.CallerLemmas.{dead_iff, greatest_base}
use Rattle.wfc_problem.proofs.Corners.{corner_only, corner_problem}
use Rattle.wfc_problem.proofs.examples.domains_shrink.Goals as goal

pub returns-clause-only : goal.returns-clause-only
returns-clause-only c = corner_only

pub returns-clause-alive : goal.returns-clause-alive
unfolding greatest
returns-clause-alive c = λ dead. false≢true ((dead_iff corner corner_problem (greatest corner []) (greatest_base corner corner_problem [])).1 dead)

pub returns-clause-dead : goal.returns-clause-dead
unfolding greatest
returns-clause-dead c = (dead_iff corner corner_problem (greatest corner (Is 1 2 ∷ [])) (greatest_base corner corner_problem (Is 1 2 ∷ []))).0 refl
