-- Which lines of two cells that differ have a map, of those that keep value 0 and value 1 at the first, and value 1 at the
-- second.
use Rattle.std.proofs.Common.{[], false, refl, true, ◌∷◌}
use Rattle.rand_core.specs.Stream.{next_u64}
use Rattle.wfc_choose.specs.Draw.{drawn_value}
use Rattle.wfc_choose.specs.Pick.{picked_cell}
use Rattle.wfc_problem.proofs.Corners.{fit_legal}
use Rattle.wfc_problem.proofs.Faults.{problem_from}
use Rattle.wfc_problem.specs.Fault.{problem_fault_of}
use Rattle.wfc_problem.specs.Rounds.{greatest}
use Rattle.wfc_search.specs.Run.{turn_of, end_within, end_from}
use Rattle.wfc_search.specs.Small.{pair, scanline, twos}
use Rattle.wfc_explain.proofs.BlameLemmas.{outcome_lacks}
use Rattle.wfc_explain.specs.Blame.{HasMap}
use Rattle.wfc_explain.specs.Small.{two_cells_with}

-- the first line and the last have a map
pub outer : HasMap (two_cells_with (true ∷ false ∷ true ∷ []))
unfolding pair problem_fault_of
outer = (0 ∷ 1 ∷ [], fit_legal _ (problem_from _ refl) (0 ∷ 1 ∷ []) refl refl)

-- so has the second alone
pub second : HasMap (two_cells_with (false ∷ true ∷ false ∷ []))
unfolding pair problem_fault_of
second = (1 ∷ 0 ∷ [], fit_legal _ (problem_from _ refl) (1 ∷ 0 ∷ []) refl refl)

-- and the last
pub last : HasMap (two_cells_with (false ∷ false ∷ true ∷ []))
unfolding pair problem_fault_of
last = (0 ∷ 1 ∷ [], fit_legal _ (problem_from _ refl) (0 ∷ 1 ∷ []) refl refl)

-- and the first
pub first : HasMap (two_cells_with (true ∷ false ∷ false ∷ []))
unfolding pair problem_fault_of
first = (0 ∷ 1 ∷ [], fit_legal _ (problem_from _ refl) (0 ∷ 1 ∷ []) refl refl)

-- the first two have none
pub first_two : HasMap (two_cells_with (true ∷ true ∷ false ∷ [])) → ⊥
unfolding pair twos greatest picked_cell drawn_value next_u64 turn_of end_within end_from problem_fault_of
first_two = outcome_lacks _ (problem_from _ refl) scanline 0 twos refl

-- nor have the last two
pub last_two : HasMap (two_cells_with (false ∷ true ∷ true ∷ [])) → ⊥
unfolding pair twos greatest picked_cell drawn_value next_u64 turn_of end_within end_from problem_fault_of
last_two = outcome_lacks _ (problem_from _ refl) scanline 0 twos refl

-- nor have all three
pub all_three : HasMap (two_cells_with (true ∷ true ∷ true ∷ [])) → ⊥
unfolding pair twos greatest picked_cell drawn_value next_u64 turn_of end_within end_from problem_fault_of
all_three = outcome_lacks _ (problem_from _ refl) scanline 0 twos refl
