-- What proofs of other crates cite: each fact of a problem, and the lemmas on its definitions.
use Rattle.std.proofs.Common.{◌≡◌, ℕ, ◌*◌, ◌<◌, ◌≤◌, length, arith, Some, ◌⊎◌, inl, inr}
use Rattle.std.specs.Prelude.{Contains}
use Rattle.std.specs.List.Sorted.{IsStrictlyIncreasing}
use Rattle.wfc_lists.proofs.Tables.{row_below}
use Rattle.wfc_model.specs.Direction.{opposite}
use Rattle.wfc_model.proofs.DirectionLemmas.{opposite_below}
use Rattle.wfc_problem.specs.declared.TheConstants.{MAX_PAIRS, MAX_VALUES, MAX_WEIGHT}
use Rattle.wfc_problem.specs.Network.{Network, values, value_weight, neighbour, supports_of, IsProblem}
use Rattle.wfc_problem.proofs.Tables.{neighbour_read}
pub use Rattle.wfc_problem.proofs.Tables.{IsRead, neighbour_read, neighbour_is, neighbour_not_none, neighbour_dir, beside_names, beside_length, supports_at, supports_past, supports_inside, flag_at, flag_past, flag_inside, base_inside}
pub use Rattle.wfc_problem.proofs.HopLemmas.{hops_length, hop_names}
pub use Rattle.wfc_problem.proofs.Supports.{support_in, supports_le, supports_few, ok_both}
pub use Rattle.wfc_problem.proofs.Domains.{support_count_le, support_count_few, consistent_from_counts, counts_from_consistent}
pub use Rattle.wfc_problem.proofs.Cuts.{leaves_is, leaves_not, leaves_other, cut_within, cut_both, base_with_none, base_with_more, base_with_falls, base_with-append}
pub use Rattle.wfc_problem.proofs.Cuts.{lies_within, lies_is, lies_not, lies_either, lies_is_exact, lies_not_exact, legal_base}
pub use Rattle.wfc_problem.proofs.Cuts.{legal_supported, lies_supported, within_supported, IsBare, bare_unsupported, bare_or_consistent}
pub use Rattle.wfc_problem.proofs.Domains.{greatest_falls, greatest_lower, greatest_within, greatest_consistent, greatest_holds, greatest_from_holding, greatest_same}
pub use Rattle.wfc_problem.proofs.Domains.{assignment_stands, dead_none, only_legal, only_lies}
pub use Rattle.wfc_problem.proofs.Greatest.{greatest_below, greatest_base, greatest_leaves, choice_one, ruled_out_less, pairs_base, is_dead_none}
pub use Rattle.wfc_problem.proofs.Greatest.{IsAbove, base_above, cut_above, above_consistent, above_without}
pub use Rattle.wfc_problem.proofs.Rounds.{InRange, round_contains, fixed_consistent, rounds_consistent, rounds_greatest, pairs_le, base_with_base, base_with_inside, depth_greatest, greatest_is}
pub use Rattle.wfc_problem.proofs.Flags.{Tells, flags_inside, flags_are, depth_flags, tells_none, tells_push}
pub use Rattle.wfc_problem.proofs.Rows.{flag-set, length-row_of, row_of-set_same, row_of-set_other}
pub use Rattle.wfc_problem.proofs.Whole.{whole_base, whole_is, all_base, whole_row}
pub use Rattle.wfc_problem.proofs.Sizes.{length-sizes_of, sizes_of_at, values_at_have, values_at_stand, values_at_are, values_at_rise, size_at_pos, size_at_le, size_at_without, size_at_one, dead_iff, alive_pos, pairs_less, first_values_at, only_first}

-- ---- what holds of a problem

-- there is a cell
pub some_cell : (P : Network) → IsProblem P → 0 < P.cells
some_cell P p = p.sized.some_cell

-- and there are at most 8,388,608
pub few_cells : (P : Network) → IsProblem P → P.cells ≤ MAX_PAIRS
few_cells P p = p.sized.few_cells

-- there are four directions, or six
pub four_or_six : (P : Network) → IsProblem P → (P.dirs ≡ 4) ⊎ (P.dirs ≡ 6)
four_or_six P p = p.sized.four_or_six

-- so there is one
pub some_dir : (P : Network) → IsProblem P → 0 < P.dirs
some_dir P p = elim p.sized.four_or_six [ inl e ↦ omega arith | inr e ↦ omega arith ]

-- and there are at most six
pub few_dirs : (P : Network) → IsProblem P → P.dirs ≤ 6
few_dirs P p = elim p.sized.four_or_six [ inl e ↦ omega arith | inr e ↦ omega arith ]

-- the opposite of a direction is one
pub opposite_in : (P : Network) → IsProblem P → (d : ℕ) → d < P.dirs → opposite d < P.dirs
opposite_in P p d h = opposite_below P.dirs d p.sized.four_or_six h

-- there is a value
pub some_value : (P : Network) → IsProblem P → 0 < values P
some_value P p = p.sized.some_value

-- and there are at most 4,096
pub few_values : (P : Network) → IsProblem P → values P ≤ MAX_VALUES
few_values P p = p.sized.few_values

-- there are at most 8,388,608 pairs of a cell and a value
pub few_pairs : (P : Network) → IsProblem P → P.cells * values P ≤ MAX_PAIRS
few_pairs P p = p.sized.few_pairs

-- the neighbours have an entry for each cell and direction
pub neighbours_table : (P : Network) → IsProblem P → length P.neighbours ≡ P.cells * P.dirs
neighbours_table P p = p.sized.neighbours_table

-- the supports have one for each value and direction
pub supports_table : (P : Network) → IsProblem P → length P.supports ≡ values P * P.dirs
supports_table P p = p.sized.supports_table

-- the base has one for each cell and value
pub base_table : (P : Network) → IsProblem P → length P.base ≡ P.cells * values P
base_table P p = p.sized.base_table

-- a value has a weight
pub some_weight : (P : Network) → IsProblem P → (v : ℕ) → v < values P → 0 < value_weight P v
some_weight P p = p.weighed.some_weight

-- of at most 16,777,216
pub small_weight : (P : Network) → IsProblem P → (v : ℕ) → v < values P → value_weight P v ≤ MAX_WEIGHT
small_weight P p = p.weighed.small_weight

-- the supports of a value rise
pub rising : (P : Network) → IsProblem P → (v d : ℕ) → IsStrictlyIncreasing (supports_of P v d)
rising P p = p.indexed.rising

-- and are values
pub in_values : (P : Network) → IsProblem P → (v w d : ℕ) → Contains (supports_of P v d) w → w < values P
in_values P p = p.indexed.in_values

-- a neighbour is a cell
pub in_cells : (P : Network) → IsProblem P → (c d n : ℕ) → neighbour P c d ≡ Some n → n < P.cells
in_cells P p = p.indexed.in_cells

-- of a cell, in a direction that there is
pub neighbour_in : (P : Network) → IsProblem P → (c d n : ℕ) → neighbour P c d ≡ Some n → (c < P.cells) × (d < P.dirs) × (n < P.cells)
neighbour_in P p c d n e =
    let r = neighbour_read P c d n e in
    (row_below c d P.dirs P.cells (omega (arith, r.inside, p.sized.neighbours_table)), r.dir_in, p.indexed.in_cells c d n e)

-- the way from a neighbour leads back
pub back : (P : Network) → IsProblem P → (c d n : ℕ) → neighbour P c d ≡ Some n → neighbour P n (opposite d) ≡ Some c
back P p = p.back

-- what may stand beside a value has the value beside it the other way
pub symmetric : (P : Network) → IsProblem P → (v w d : ℕ) → Contains (supports_of P v d) w → Contains (supports_of P w (opposite d)) v
symmetric P p = p.symmetric
