-- Which images are different, found by their hashes.
use Rattle.std.proofs.Common.{◌≡◌, ◌≢◌, ℕ, ◌+◌, ◌<◌, ◌≤◌, true, false, List, length, get_or, slice_index, Option, Some, None, refl, sym, ap, ◌∙◌, arith, inl, inr, ◌⊎◌, nat_eq}
use Rattle.std.specs.List.{list_any, range_with_len}
use Rattle.std.proofs.lemmas.Bool.{cases_lt, cases_eq}
use Rattle.std.proofs.lemmas.List.{get_or-map, length-map, get_or_default}
use Rattle.std.proofs.lemmas.Bool.{false_from_ne_true}
use Rattle.std.proofs.lemmas.List.Folds.{list_any_none, list_any_at}
use Rattle.std.proofs.lemmas.List.Elements.{All-map}
use Rattle.std.proofs.lemmas.List.FromFn.{map-range_with_len_more}
use Rattle.std.specs.Cmp.Lexicographic.{pointwise}
use Rattle.wfc_lists.specs.WithoutRepeats.{without_repeats, with_new}
use Rattle.wfc_lists.proofs.WithoutRepeats.{unrepeated_push}
use Rattle.wfc_model.specs.Raster.{Raster}
use Rattle.wfc_model.proofs.LearnedLemmas.{same_window-Decides}
use Rattle.wfc_pattern.specs.Chains.{hash_of, IsLastOf}
use Rattle.wfc_pattern.specs.Different.{arisen, images_of, HashesAre}
use Rattle.wfc_pattern.proofs.TallyLemmas.{sound, whole}

module _ (sample : Raster) (n s columns : ℕ) (numbers hashes w : List ℕ) (hash : ℕ) where
  -- image k of those that are kept
  abbrev pub kept_at : ℕ → List ℕ
  kept_at k = arisen sample n s columns (slice_index numbers k)

  -- from the place that is looked at next on, no image that is kept is w, and there the hash is w's
  abbrev pub IsSearched : Option ℕ → Type 0
  IsSearched None = (k : ℕ) → k < length numbers → kept_at k ≢ w
  IsSearched (Some p) = (p < length numbers) × (slice_index hashes p ≡ hash) × ((k : ℕ) → p < k → k < length numbers → kept_at k ≢ w)

  -- the hash of an image that is kept
  hash_kept : HashesAre sample n s columns numbers hashes → (k : ℕ) → k < length numbers → slice_index hashes k ≡ hash_of (kept_at k)
  hash_kept are k within = ap (λ hs. slice_index hs k) are ∙ get_or-map (λ at. hash_of (arisen sample n s columns at)) numbers k 0 0 within

  pub as_many : HashesAre sample n s columns numbers hashes → length hashes ≡ length numbers
  as_many are = ap length are ∙ length-map numbers (λ at. hash_of (arisen sample n s columns at))

  -- another hash is another image
  other_image : HashesAre sample n s columns numbers hashes → hash ≡ hash_of w → (k : ℕ) → k < length numbers → slice_index hashes k ≢ hash → kept_at k ≢ w
  other_image are own k within other same = other (hash_kept are k within ∙ ap hash_of same ∙ sym own)

  -- the last of the hashes is looked at first
  pub search_first : HashesAre sample n s columns numbers hashes → hash ≡ hash_of w → (bound : ℕ) → bound ≡ length numbers → (next : Option ℕ) → IsLastOf hashes hash bound next → IsSearched next
  search_first are own bound long None none = λ k within. other_image are own k within (none k (omega arith))
  search_first are own bound long (Some p) last = (omega (arith, last.within), last.same, λ k after within. other_image are own k within (last.last k after (omega arith)))

  -- and then the last before it
  from_here : (p : ℕ) → IsSearched (Some p) → kept_at p ≢ w → (k : ℕ) → k < length numbers → p ≤ k → kept_at k ≢ w
  from_here p so_far other k within from same = by (cases_eq p k)
    where
      by : (p ≡ k) ⊎ (p ≡ k → ⊥) → ⊥
      by (inl here) = other (ap kept_at here ∙ same)
      by (inr beyond) = so_far.2 k (omega arith) within same

  pub search_next : HashesAre sample n s columns numbers hashes → hash ≡ hash_of w → (p : ℕ) → IsSearched (Some p) → kept_at p ≢ w → (next : Option ℕ) → IsLastOf hashes (slice_index hashes p) p next → IsSearched next
  search_next are own p so_far other None none = λ k within same. by k within same (cases_lt k p)
    where
      by : (k : ℕ) → k < length numbers → kept_at k ≡ w → (k < p) ⊎ (p ≤ k) → ⊥
      by k within same (inl before) = other_image are own k within (λ e. none k before (e ∙ sym so_far.1)) same
      by k within same (inr from) = from_here p so_far other k within from same
  search_next are own p so_far other (Some q) last = (omega (arith, so_far.0, last.within), last.same ∙ so_far.1, λ k after within same. by k after within same (cases_lt k p))
    where
      by : (k : ℕ) → q < k → k < length numbers → kept_at k ≡ w → (k < p) ⊎ (p ≤ k) → ⊥
      by k after within same (inl before) = other_image are own k within (λ e. last.last k after before (e ∙ sym so_far.1)) same
      by k after within same (inr from) = from_here p so_far other k within from same

  -- where nothing is left to look at, no image that is kept is w
  pub not_kept : IsSearched None → list_any (pointwise nat_eq w) (images_of sample n s columns numbers) ≡ false
  not_kept none =
      list_any_none (pointwise nat_eq w) (images_of sample n s columns numbers)
      (All-map (λ v. pointwise nat_eq w v ≡ false) (arisen sample n s columns) numbers
      (λ k d within. false_from_ne_true (pointwise nat_eq w (arisen sample n s columns (get_or numbers k d))) (λ same. none k within (ap (arisen sample n s columns) (get_or_default numbers k 0 d within) ∙ sym ((same_window-Decides w (arisen sample n s columns (get_or numbers k d))).0 same)))))

  -- where one is w, one is
  pub one_kept : (p : ℕ) → p < length numbers → kept_at p ≡ w → list_any (pointwise nat_eq w) (images_of sample n s columns numbers) ≡ true
  one_kept p within same =
      list_any_at (pointwise nat_eq w) (images_of sample n s columns numbers) p w (omega (arith, length-map numbers (arisen sample n s columns)))
      (ap (pointwise nat_eq w) (get_or-map (arisen sample n s columns) numbers p 0 w within ∙ same) ∙ (same_window-Decides w w).1 refl)

-- one more image is met
pub met_more : (sample : Raster) (n s columns at : ℕ) (numbers now : List ℕ) → images_of sample n s columns numbers ≡ without_repeats (pointwise nat_eq) (images_of sample n s columns (range_with_len 0 at))
    → images_of sample n s columns now ≡ with_new (pointwise nat_eq) (images_of sample n s columns numbers) (arisen sample n s columns at) → images_of sample n s columns now ≡ without_repeats (pointwise nat_eq) (images_of sample n s columns (range_with_len 0 (at + 1)))
met_more sample n s columns at numbers now so_far step =
    step
    ∙ ap (λ ws. with_new (pointwise nat_eq) ws (arisen sample n s columns at)) so_far
    ∙ sym (unrepeated_push (pointwise nat_eq) sound whole (images_of sample n s columns (range_with_len 0 at)) (arisen sample n s columns at))
    ∙ ap (without_repeats (pointwise nat_eq)) (sym (map-range_with_len_more (arisen sample n s columns) 0 at at (omega arith)))
