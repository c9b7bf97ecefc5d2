use Rattle.std.proofs.Common.{refl}
use Rattle.std.proofs.lemmas.Bool.{false≢true}
use Rattle.wfc_problem.proofs.Corners.{corner_legal}
use Rattle.wfc_problem.proofs.examples.assignments_are_judged.Goals as goal

pub returns-clause-legal : goal.returns-clause-legal
returns-clause-legal c = corner_legal

pub returns-clause-across : goal.returns-clause-across
returns-clause-across c = λ legal. false≢true (legal.beside 0 2 1 refl)

pub returns-clause-below : goal.returns-clause-below
returns-clause-below c = λ legal. false≢true (legal.beside 0 1 2 refl)
