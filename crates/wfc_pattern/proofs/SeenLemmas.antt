-- What a map from windows to counts says of the windows and the counts.
use Rattle.std.proofs.Common.{◌≡◌, ℕ, ◌+◌, ◌<◌, Bool, true, false, cond, if◌then◌else◌, List, [], ◌∷◌, length, get_or, map, slice_get, slice_index, position, Option, None, Some, Vec, refl, sym, ap, ◌∙◌, arith, nat_eq}
use Rattle.std.specs.Map.{lookup, keys_of, values_of}
use Rattle.std.specs.Option.{option_map}
use Rattle.std.proofs.lemmas.List.{length-map}
use Rattle.std.proofs.lemmas.Option.{slice_get-map, slice_get_read, get_or_from_slice_get}
use Rattle.std.specs.Cmp.Lexicographic.{pointwise}
use Rattle.wfc_lists.proofs.Positions.{position-map}
use Rattle.wfc_pattern.specs.Tally.{recount, windows_of, weights_of}
use Rattle.wfc_pattern.proofs.NotedLemmas.{seen, holds}

module _ {Z : Type 0} where
  abbrev pub items_of : Vec ℕ Z → List ℕ
  items_of key = key.items

  pub windows_seen : (es : List (Vec ℕ Z × ℕ)) → windows_of (seen es) ≡ map items_of (keys_of es)
  windows_seen [] = refl
  windows_seen (e ∷ es) = ap (λ ws. e.0.items ∷ ws) (windows_seen es)

  pub weights_seen : (es : List (Vec ℕ Z × ℕ)) → weights_of (seen es) ≡ values_of es
  weights_seen [] = refl
  weights_seen (e ∷ es) = ap (λ ns. e.1 ∷ ns) (weights_seen es)

  pub window_seen : (es : List (Vec ℕ Z × ℕ)) (p : ℕ) (key : Vec ℕ Z) → p < length (windows_of (seen es)) → key ≡ get_or (keys_of es) p key → slice_get (windows_of (seen es)) p ≡ Some key.items
  window_seen es p key within read =
      let short : length (keys_of es) ≡ length (windows_of (seen es)) = sym (ap length (windows_seen es) ∙ length-map (keys_of es) items_of) in
      ap (λ ws. slice_get ws p) (windows_seen es)
      ∙ slice_get-map items_of (keys_of es) p
      ∙ ap (option_map items_of) (slice_get_read (keys_of es) (length (keys_of es)) p key refl (omega arith) read)

  pub weight_seen : (es : List (Vec ℕ Z × ℕ)) (p n : ℕ) → slice_get (values_of es) p ≡ Some n → n ≡ slice_index (weights_of (seen es)) p
  weight_seen es p n read = sym (ap (λ ns. get_or ns p 0) (weights_seen es) ∙ get_or_from_slice_get (values_of es) p n 0 read)

  pub place_seen : (w : List ℕ) (es : List (Vec ℕ Z × ℕ)) → position (λ k. pointwise nat_eq w (items_of k)) (keys_of es) ≡ position (pointwise nat_eq w) (windows_of (seen es))
  place_seen w es = sym (ap (position (pointwise nat_eq w)) (windows_seen es) ∙ position-map (pointwise nat_eq w) items_of (keys_of es))

  -- the window of the entry at a place stands there
  pub window_at_entry : (es : List (Vec ℕ Z × ℕ)) (at : ℕ) (key : Vec ℕ Z) (v : ℕ) → slice_get es at ≡ Some (key, v) → slice_get (windows_of (seen es)) at ≡ Some key.items
  window_at_entry es at key v there =
      slice_get-map (λ (e : List ℕ × ℕ). e.0) (seen es) at
      ∙ ap (option_map (λ (e : List ℕ × ℕ). e.0)) (slice_get-map (λ (e : Vec ℕ Z × ℕ). (e.0.items, e.1)) es at ∙ ap (option_map (λ (e : Vec ℕ Z × ℕ). (e.0.items, e.1))) there)

  -- a new key goes behind the windows that there are
  pub window_at_end : (es : List (Vec ℕ Z × ℕ)) (w : List ℕ) → lookup (holds w) es ≡ None → slice_get (windows_of (recount (seen es) w)) (length es) ≡ Some w
  window_at_end [] w absent = refl
  window_at_end (e ∷ es) w absent = by (holds w e.0) refl (window_at_end es w)
    where
      no : (v : ℕ) → (let some : Option ℕ = Some v in some) ≡ None → ⊥
      no v same = cc

      by : (b : Bool) → holds w e.0 ≡ b → (lookup (holds w) es ≡ None → slice_get (windows_of (recount (seen es) w)) (length es) ≡ Some w) → slice_get (windows_of (recount (seen (e ∷ es)) w)) (length (e ∷ es)) ≡ Some w
      by true same rest = absurd (no e.1 (sym (ap (λ b. cond b (Some e.1) (lookup (holds w) es)) same) ∙ absent))
      by false other rest =
          ap (λ b. slice_get (windows_of (if b then (e.0.items, e.1 + 1) ∷ seen es else (e.0.items, e.1) ∷ recount (seen es) w)) (length (e ∷ es))) other
          ∙ rest (sym (ap (λ b. cond b (Some e.1) (lookup (holds w) es)) other) ∙ absent)
