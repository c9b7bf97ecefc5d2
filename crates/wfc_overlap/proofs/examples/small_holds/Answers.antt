use Rattle.std.proofs.Common.{[], ◌∷◌, refl, arith}
use Rattle.wfc_model.specs.Legal.{banned_pin, kept_pin}
use Rattle.wfc_overlap.specs.Small.{three_by_two}
use Rattle.wfc_overlap.proofs.SubjectLemmas.{met-holds}
use Rattle.wfc_overlap.proofs.examples.small_holds.Goals as goal

pub returns-clause-kept : goal.returns-clause-kept
returns-clause-kept c = met-holds 2 three_by_two 1 0 (1 ∷ 2 ∷ 3 ∷ 4 ∷ []) (kept_pin 2 0 2) refl

pub returns-clause-other : goal.returns-clause-other
returns-clause-other c holds = omega (arith, holds 1 0 (omega arith) (omega arith) refl refl)

pub returns-clause-banned : goal.returns-clause-banned
returns-clause-banned c = met-holds 2 three_by_two 1 0 (1 ∷ 2 ∷ 3 ∷ 4 ∷ []) (banned_pin 1 1 2) refl

pub returns-clause-banned_there : goal.returns-clause-banned_there
returns-clause-banned_there c holds = holds 0 1 (omega arith) (omega arith) refl refl refl

pub returns-clause-clear : goal.returns-clause-clear
returns-clause-clear c = met-holds 2 three_by_two 1 0 (1 ∷ 2 ∷ 3 ∷ 4 ∷ []) (kept_pin 0 1 9) refl
