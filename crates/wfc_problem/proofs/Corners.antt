-- The small problem: what is tested of it cell by cell.
use Rattle.std.proofs.Common.{◌≡◌, ℕ, ◌<◌, Bool, true, List, [], ◌∷◌, length, refl, sym, ◌∙◌, ap, Option, Some, None}
use Rattle.std.specs.Prelude.{◌&&◌, nat_le, slice_index}
use Rattle.std.specs.List.{list_all, range_with_len}
use Rattle.std.proofs.lemmas.Bool.{and_parts, leb-true}
use Rattle.wfc_lists.proofs.Lists.{all_pass}
use Rattle.wfc_lists.proofs.Ranges.{range_Contains}
use Rattle.wfc_problem.specs.Assignment.{IsLegalAssignment}
use Rattle.wfc_problem.specs.Corner.{corner}
use Rattle.wfc_problem.specs.Domains.{HasOnly}
use Rattle.wfc_problem.specs.Fault.{problem_fault_of}
use Rattle.wfc_problem.specs.Network.{Network, IsProblem, neighbour, ok, in_base}
use Rattle.wfc_problem.specs.Rounds.{greatest}
use Rattle.wfc_problem.specs.Sizes.{size_at}
use Rattle.wfc_problem.specs.declared.Literal.TheVariants.{Is}
use Rattle.wfc_problem.proofs.CallerLemmas.{neighbour_in, greatest_base, only_first}
use Rattle.wfc_problem.proofs.Faults.{problem_from}

-- its parts have no fault
pub corner_problem : IsProblem corner
unfolding problem_fault_of
corner_problem = problem_from corner refl

-- ---- an assignment, tested

-- whether the values of a cell and of its neighbour may stand beside each other
abbrev is_beside : Network → List ℕ → ℕ → ℕ → Option ℕ → Bool
is_beside P a c d None = true
is_beside P a c d (Some n) = ok P d (slice_index a c) (slice_index a n)

-- whether those of a cell and of all its neighbours may, and its own is one of its base
abbrev is_fit : Network → List ℕ → ℕ → Bool
is_fit P a c = in_base P c (slice_index a c) && list_all (λ d. is_beside P a c d (neighbour P c d)) (range_with_len 0 P.dirs)

-- where it is so for each cell, the assignment is legal
pub fit_legal : (P : Network) → IsProblem P → (a : List ℕ) → length a ≡ P.cells → list_all (is_fit P a) (range_with_len 0 P.cells) ≡ true → IsLegalAssignment P a
fit_legal P p a long all = record {
  each_cell = long;
  based = λ c l. (at c l).0;
  beside = λ c d n e.
      let inside = neighbour_in P p c d n e in
      let sides = (at c inside.0).1 in
      sym (ap (is_beside P a c d) e) ∙ all_pass (λ d. is_beside P a c d (neighbour P c d)) (range_with_len 0 P.dirs) d sides (range_Contains P.dirs d inside.1);
}
  where
    at : (c : ℕ) → c < P.cells → (in_base P c (slice_index a c) ≡ true) × (list_all (λ d. is_beside P a c d (neighbour P c d)) (range_with_len 0 P.dirs) ≡ true)
    at c l = and_parts _ _ (all_pass (is_fit P a) (range_with_len 0 P.cells) c all (range_Contains P.cells c l))

-- the last of the assignments along the row
pub corner_legal : IsLegalAssignment corner (1 ∷ 2 ∷ 2 ∷ 0 ∷ [])
corner_legal = fit_legal corner corner_problem (1 ∷ 2 ∷ 2 ∷ 0 ∷ []) refl refl

-- where cell 3 has value 2 each cell has one value
pub corner_only : HasOnly corner (greatest corner (Is 2 3 ∷ [])) (0 ∷ 1 ∷ 0 ∷ 2 ∷ [])
unfolding greatest
corner_only =
    only_first corner corner_problem (greatest corner (Is 2 3 ∷ [])) (greatest_base corner corner_problem (Is 2 3 ∷ [])) refl
    (λ c l. leb-true (size_at corner (greatest corner (Is 2 3 ∷ [])) c) 1
    (all_pass (λ c. nat_le (size_at corner (greatest corner (Is 2 3 ∷ [])) c) 1) (range_with_len 0 4) c refl (range_Contains 4 c l)))
