-- Rows of windows that overlap.
use Rattle.std.proofs.Common.{◌≡◌, ℕ, ◌+◌, ◌-◌, ◌*◌, ◌<◌, ◌≤◌, Bool, true, List, length, get_or, slice_range, sym, ap, ◌∙◌, arith, nat_eq}
use Rattle.std.proofs.lemmas.List.{ext_get_or}
use Rattle.std.proofs.lemmas.List.Edits.{length-between, get_or-between}
use Rattle.std.proofs.Math.Nat.{mul-le-mul_right}
use Rattle.std.specs.Cmp.Lexicographic.{pointwise}
use Rattle.wfc_model.specs.Image.{cell_at}
use Rattle.wfc_model.proofs.LearnedLemmas.{same_window-Decides}
use Rattle.wfc_pattern.specs.Agreement.{IsOverlap}

module _ (n columns rows j : ℕ) (p q : List ℕ) where
  abbrev right : ℕ
  right = (j + rows) * n + columns

  abbrev left : ℕ
  left = j * n

  -- whether the part of a row of p is that of a row of q
  abbrev pub is_same_row : Bool
  is_same_row = pointwise nat_eq (slice_range p right (right + (n - columns))) (slice_range q left (left + (n - columns)))

  in_p : (i : ℕ) → i + columns < n → get_or (slice_range p right (right + (n - columns))) i 0 ≡ cell_at n p (i + columns) (j + rows)
  in_p i inside =
      let place : right + i ≡ (j + rows) * n + (i + columns) = omega arith in
      get_or-between p right (right + (n - columns)) i 0 (omega arith) ∙ ap (λ k. get_or p k 0) place

  in_q : (i : ℕ) → i + columns < n → get_or (slice_range q left (left + (n - columns))) i 0 ≡ cell_at n q i j
  in_q i inside = get_or-between q left (left + (n - columns)) i 0 (omega arith)

  pub row_same : is_same_row ≡ true → (i : ℕ) → i + columns < n → cell_at n p (i + columns) (j + rows) ≡ cell_at n q i j
  row_same same i inside =
      let parts = (same_window-Decides (slice_range p right (right + (n - columns))) (slice_range q left (left + (n - columns)))).0 same in
      sym (in_p i inside) ∙ ap (λ ns. get_or ns i 0) parts ∙ in_q i inside

  pub same_row : length p ≡ n * n → length q ≡ n * n → columns ≤ n → j + rows < n → IsOverlap n p q columns rows → is_same_row ≡ true
  same_row p_square q_square narrow below overlap =
      let p_room : (j + rows + 1) * n ≤ n * n = mul-le-mul_right n (omega arith) in
      let q_room : (j + 1) * n ≤ n * n = mul-le-mul_right n (omega arith) in
      let p_long : length (slice_range p right (right + (n - columns))) ≡ right + (n - columns) - right = length-between p right (right + (n - columns)) (omega (arith, p_room, p_square)) in
      let q_long : length (slice_range q left (left + (n - columns))) ≡ left + (n - columns) - left = length-between q left (left + (n - columns)) (omega (arith, q_room, q_square)) in
      (same_window-Decides (slice_range p right (right + (n - columns))) (slice_range q left (left + (n - columns)))).1
      (ext_get_or 0 (slice_range p right (right + (n - columns))) (slice_range q left (left + (n - columns))) (omega (arith, p_long, q_long)) (λ i within.
      let inside : i + columns < n = omega (arith, p_long) in
      in_p i inside ∙ overlap i j inside below ∙ sym (in_q i inside)))
