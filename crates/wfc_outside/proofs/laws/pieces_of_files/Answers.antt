use Rattle.std.proofs.Common.{[], ◌∷◌, refl, arith}
use Rattle.wfc_outside.proofs.laws.pieces_of_files.Goals as goal

pub returns-clause-middle : goal.returns-clause-middle
returns-clause-middle c = (5 ∷ 6 ∷ 7 ∷ [], refl, record { same = refl; inside = omega arith; at_end = λ none. omega arith })

pub returns-clause-short : goal.returns-clause-short
returns-clause-short c = (5 ∷ 6 ∷ 7 ∷ [], refl, record { same = refl; inside = omega arith; at_end = λ none. omega arith })

pub returns-clause-end : goal.returns-clause-end
returns-clause-end c = (5 ∷ 6 ∷ 7 ∷ [], refl, record { same = refl; inside = omega arith; at_end = λ none room. omega arith })

pub returns-clause-no_room : goal.returns-clause-no_room
returns-clause-no_room c = (5 ∷ 6 ∷ 7 ∷ [], refl, record { same = refl; inside = omega arith; at_end = λ none room. omega arith })
