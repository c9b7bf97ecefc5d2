-- Problems whose supports are made of a test, direction by direction: which values may stand beside which.
use Rattle.std.proofs.Common.{◌≡◌, ℕ, ◌+◌, ◌*◌, ◌<◌, ◌≤◌, Bool, true, inl, inr, List, [], length, get_or, map, filter, sym, subst, ap, ◌∙◌, arith, zero-add}
use Rattle.std.specs.Prelude.{Contains}
use Rattle.std.specs.List.{flat_map, range_with_len}
use Rattle.std.specs.List.Sorted.{IsStrictlyIncreasing}
use Rattle.std.proofs.lemmas.Bool.{cases_lt}
use Rattle.std.proofs.lemmas.List.{get_or_past}
use Rattle.std.proofs.lemmas.List.Kept.{IsStrictlyIncreasing-filter}
use Rattle.std.proofs.lemmas.List.FromFn.{length-map-range_with_len, get_or-map-range_with_len, length-range_with_len}
use Rattle.std.proofs.Math.Nat.{mul-le-mul_right}
use Rattle.wfc_lists.proofs.Growing.{range_rises}
use Rattle.wfc_lists.proofs.Lists.{Contains-filter, filter-Contains}
use Rattle.wfc_lists.proofs.Ranges.{range_at, range_Contains, Contains_range}
use Rattle.wfc_lists.proofs.Tables.{length-table, table-at, row_below}
use Rattle.wfc_problem.specs.Network.{Network, supports_of}
use Rattle.wfc_problem.proofs.CallerLemmas.{supports_at, supports_past, supports_inside}

-- the values below count that may stand beside v in a direction, rising
abbrev pub fitting : ℕ → (ℕ → ℕ → ℕ → Bool) → ℕ → ℕ → List ℕ
fitting count fits v d = filter (λ w. fits d v w) (range_with_len 0 count)

-- direction by direction
abbrev pub all_fitting : ℕ → ℕ → (ℕ → ℕ → ℕ → Bool) → ℕ → List (List ℕ)
all_fitting dirs count fits v = map (λ d. fitting count fits v d) (range_with_len 0 dirs)

-- both values are below count, and the test passes
pub record IsFitting (count : ℕ) (fits : ℕ → ℕ → ℕ → Bool) (v w d : ℕ) : Type 0 where
  pub first : v < count
  pub second : w < count
  pub fit : fits d v w ≡ true

module _ (P : Network) (count : ℕ) (fits : ℕ → ℕ → ℕ → Bool)
    (is : P.supports ≡ flat_map (λ v. map (λ d. filter (λ w. fits d v w) (range_with_len 0 count)) (range_with_len 0 P.dirs)) (range_with_len 0 count)) where
  each : (v : ℕ) → length (all_fitting P.dirs count fits v) ≡ P.dirs
  each v = length-map-range_with_len (λ d. fitting count fits v d) 0 P.dirs

  pub length-supports : length P.supports ≡ count * P.dirs
  length-supports =
      ap length is ∙ length-table (λ v. all_fitting P.dirs count fits v) P.dirs each (range_with_len 0 count)
      ∙ ap (λ k. k * P.dirs) (length-range_with_len 0 count)

  pub supports-at : (v d : ℕ) → v < count → d < P.dirs → supports_of P v d ≡ fitting count fits v d
  supports-at v d inside dir =
      supports_at P v d dir
      ∙ ap (λ lists. get_or lists (v * P.dirs + d) []) is
      ∙ table-at (λ v. all_fitting P.dirs count fits v) P.dirs each (range_with_len 0 count) v d 0 [] (omega (arith, length-range_with_len 0 count)) dir
      ∙ ap (λ k. get_or (all_fitting P.dirs count fits k) d []) (range_at count v inside)
      ∙ get_or-map-range_with_len (λ d. fitting count fits v d) 0 P.dirs d d [] dir (zero-add d)

  pub support-fits : (v w d : ℕ) → Contains (supports_of P v d) w → IsFitting count fits v w d
  support-fits v w d has =
      let at = supports_inside P v d w has in
      let first : v < count = row_below v d P.dirs count (omega (arith, at.1, length-supports)) in
      let kept : Contains (fitting count fits v d) w = subst (λ ws. Contains ws w) (supports-at v d first at.0) has in
      let parts = filter-Contains (λ w. fits d v w) (range_with_len 0 count) w kept in
      record { first = first; second = Contains_range count w parts.1; fit = parts.0 }

  pub fits-support : (v w d : ℕ) → d < P.dirs → IsFitting count fits v w d → Contains (supports_of P v d) w
  fits-support v w d dir fit =
      subst (λ ws. Contains ws w) (sym (supports-at v d fit.first dir)) (Contains-filter (λ w. fits d v w) (range_with_len 0 count) w (range_Contains count w fit.second) fit.fit)

  rising_in : (v d : ℕ) → d < P.dirs → IsStrictlyIncreasing (supports_of P v d)
  rising_in v d dir = elim (cases_lt v count) [
    | inl l ↦ subst IsStrictlyIncreasing (sym (supports-at v d l dir)) (IsStrictlyIncreasing-filter (λ w. fits d v w) (range_with_len 0 count) (range_rises count))
    | inr ge ↦ subst IsStrictlyIncreasing (sym (supports_at P v d dir ∙ get_or_past P.supports (v * P.dirs + d) [] (past v d ge))) (λ k l. absurd (omega arith))
  ]
    where
      past : (v d : ℕ) → count ≤ v → length P.supports ≤ v * P.dirs + d
      past v d ge = let more : count * P.dirs ≤ v * P.dirs = mul-le-mul_right P.dirs ge in omega (arith, more, length-supports)

  pub supports_rise : (v d : ℕ) → IsStrictlyIncreasing (supports_of P v d)
  supports_rise v d = elim (cases_lt d P.dirs) [
    | inl dir ↦ rising_in v d dir
    | inr past ↦ subst IsStrictlyIncreasing (sym (supports_past P v d past)) (λ k l. absurd (omega arith))
  ]
