-- The patterns of one number that laws speak of.
use Rattle.std.proofs.Common.{◌≡◌, ℕ, ◌<◌, ◌≤◌, List, [], ◌∷◌, length, map, replicate, get_or, sym, ◌∙◌, arith, refl, zero-add}
use Rattle.std.specs.List.{All, range_with_len}
use Rattle.std.proofs.lemmas.List.{length-replicate}
use Rattle.std.proofs.lemmas.List.Elements.{All-from_get_or, All-replicate}
use Rattle.std.proofs.lemmas.List.FromFn.{length-map-range_with_len, get_or-map-range_with_len}
use Rattle.wfc_pattern.specs.Patterns.{IsPatterns, AreDifferent}
use Rattle.wfc_pattern.specs.Small.{patterns_of_one}
use Rattle.wfc_pattern.specs.declared.TheConstants.{MAX_PATTERNS, MAX_ARISING}

-- the windows of one number, up to a count
abbrev windows_of_one : ℕ → List (List ℕ)
windows_of_one count = map (λ k. k ∷ []) (range_with_len 0 count)

-- no two of them are one
ones_differ : (count : ℕ) → AreDifferent (windows_of_one count)
ones_differ count i j d before within same =
    let inside : j < count = omega (arith, within, length-map-range_with_len (λ k. k ∷ []) 0 count) in
    let first : get_or (windows_of_one count) i d ≡ i ∷ [] = get_or-map-range_with_len (λ k. k ∷ []) 0 count i i d (omega arith) (zero-add i) in
    let second : get_or (windows_of_one count) j d ≡ j ∷ [] = get_or-map-range_with_len (λ k. k ∷ []) 0 count j j d inside (zero-add j) in
    let both : i ∷ [] ≡ j ∷ [] = sym first ∙ same ∙ second in
    let one : i ≡ j = cc in
    omega arith

-- each has one number
ones_are_squares : (count : ℕ) → All (λ (w : List ℕ). length w ≡ 1) (windows_of_one count)
ones_are_squares count =
    All-from_get_or (λ w. length w ≡ 1) (windows_of_one count) (0 ∷ []) (λ i inside.
    let within : i < count = omega (arith, inside, length-map-range_with_len (λ k. k ∷ []) 0 count) in
    rw (get_or-map-range_with_len (λ k. k ∷ []) 0 count i i (0 ∷ []) within (zero-add i)) refl)

-- up to as many as there may be they are patterns
pub ones_are_patterns : (count : ℕ) → 0 < count → count ≤ MAX_PATTERNS → IsPatterns (patterns_of_one count)
ones_are_patterns count some few = record {
  some_side = omega arith;
  small_side = omega arith;
  some_window = omega (arith, some, length-map-range_with_len (λ k. k ∷ []) 0 count);
  few = omega (arith, few, length-map-range_with_len (λ k. k ∷ []) 0 count);
  squares = ones_are_squares count;
  different = ones_differ count;
  weighed = length-replicate count 3 ∙ sym (length-map-range_with_len (λ k. k ∷ []) 0 count);
  some_weight = All-replicate (λ weight. 0 < weight) count 3 (omega arith);
  small_weight = All-replicate (λ weight. weight ≤ MAX_ARISING) count 3 (omega arith);
}
