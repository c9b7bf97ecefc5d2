-- What a map from windows to counts holds, once a window is noted.
use Rattle.std.proofs.Common.{◌≡◌, ℕ, zero, suc, ◌+◌, ◌≤◌, Bool, true, false, cond, List, [], ◌∷◌, map, slice_get, Option, None, Some, Vec, refl, sym, ap, ◌∙◌, arith, if◌then◌else◌, is_some, true≢false, nat_eq}
use Rattle.std.specs.List.{AllByRecursion, IsDistinct}
use Rattle.std.specs.Map.{lookup, keys_of}
use Rattle.std.proofs.lemmas.List.Sums.{sum_by-cons}
use Rattle.indexmap.specs.IndexMap.{insert_entry, set_value_at}
use Rattle.std.specs.Cmp.Lexicographic.{pointwise}
use Rattle.wfc_lists.proofs.WithoutRepeats.{flips}
use Rattle.wfc_pattern.specs.Tally.{recount, total}
use Rattle.wfc_pattern.proofs.TallyLemmas.{sound, whole}

one : {X : Type 0} (a b : X) → (let some : Option X = Some a in some) ≡ Some b → a ≡ b
one a b same = cc

-- an option that holds nothing
pub nothing : (o : Option ℕ) → is_some o ≡ false → o ≡ None
nothing None none = refl
nothing (Some v) none = absurd (true≢false none)

module _ {Z : Type 0} where
  -- the windows and the counts of a map's entries
  abbrev pub seen : List (Vec ℕ Z × ℕ) → List (List ℕ × ℕ)
  seen es = map (λ (e : Vec ℕ Z × ℕ). (e.0.items, e.1)) es

  -- whether a key holds the window
  abbrev pub holds : List ℕ → Vec ℕ Z → Bool
  holds w key = pointwise nat_eq w key.items

  -- what no key passes, the key at a place doesn't pass
  apart_at : (test : Vec ℕ Z → Bool) (es : List (Vec ℕ Z × ℕ)) (at : ℕ) (key : Vec ℕ Z) (v : ℕ) → AllByRecursion (λ k. test k ≡ false) (keys_of es) → slice_get es at ≡ Some (key, v) → test key ≡ false
  apart_at test [] at key v none there = absurd (no (key, v) there)
    where
      no : (x : Vec ℕ Z × ℕ) → (let none : Option (Vec ℕ Z × ℕ) = None in none) ≡ Some x → ⊥
      no x same = cc
  apart_at test (e ∷ es) zero key v none there = ap (λ (p : Vec ℕ Z × ℕ). test p.0) (sym (one e (key, v) there)) ∙ none.0
  apart_at test (e ∷ es) (suc at) key v none there = apart_at test es at key v none.1 there

  -- at the place of a window, one more of it is noted
  pub noted_there : (es : List (Vec ℕ Z × ℕ)) (at : ℕ) (key : Vec ℕ Z) (v : ℕ) → IsDistinct (λ k l. pointwise nat_eq k.items l.items) (keys_of es) → slice_get es at ≡ Some (key, v) → seen (set_value_at es at (v + 1)) ≡ recount (seen es) key.items
  unfolding IsDistinct
  noted_there [] at key v apart there = absurd (no (key, v) there)
    where
      no : (x : Vec ℕ Z × ℕ) → (let none : Option (Vec ℕ Z × ℕ) = None in none) ≡ Some x → ⊥
      no x same = cc
  noted_there (e ∷ es) zero key v apart there =
      let is : e ≡ (key, v) = one e (key, v) there in
      let same : pointwise nat_eq key.items e.0.items ≡ true = ap (λ (p : Vec ℕ Z × ℕ). pointwise nat_eq key.items p.0.items) is ∙ whole key.items in
      ap (λ (p : Vec ℕ Z × ℕ). (e.0.items, p.1 + 1) ∷ seen es) (sym is) ∙ sym (ap (λ b. if b then (e.0.items, e.1 + 1) ∷ seen es else (e.0.items, e.1) ∷ recount (seen es) key.items) same)
  noted_there (e ∷ es) (suc at) key v apart there =
      let other : pointwise nat_eq key.items e.0.items ≡ false = flips (pointwise nat_eq) sound whole e.0.items key.items (apart_at (λ k. pointwise nat_eq e.0.items k.items) es at key v apart.0 there) in
      ap (λ more. (e.0.items, e.1) ∷ more) (noted_there es at key v apart.1 there) ∙ sym (ap (λ b. if b then (e.0.items, e.1 + 1) ∷ seen es else (e.0.items, e.1) ∷ recount (seen es) key.items) other)

  -- where it has none, it goes last
  pub noted_new : (w : List ℕ) (es : List (Vec ℕ Z × ℕ)) (key : Vec ℕ Z) → lookup (holds w) es ≡ None → key.items ≡ w → seen (insert_entry (λ k l. pointwise nat_eq k.items l.items) es key 1) ≡ recount (seen es) w
  noted_new w [] key absent items = ap (λ v. (v, 1) ∷ []) items
  noted_new w (e ∷ es) key absent items = by (holds w e.0) refl (noted_new w es key)
    where
      by : (b : Bool) → holds w e.0 ≡ b → (lookup (holds w) es ≡ None → key.items ≡ w → seen (insert_entry (λ k l. pointwise nat_eq k.items l.items) es key 1) ≡ recount (seen es) w)
          → seen (insert_entry (λ k l. pointwise nat_eq k.items l.items) (e ∷ es) key 1) ≡ recount (seen (e ∷ es)) w
      by true same rest = absurd (no e.1 (sym (ap (λ b. cond b (Some e.1) (lookup (holds w) es)) same) ∙ absent))
        where
          no : (v : ℕ) → (let some : Option ℕ = Some v in some) ≡ None → ⊥
          no v same = cc
      by false other rest =
          ap (λ b. seen (if b then (e.0, 1) ∷ es else e ∷ insert_entry (λ k l. pointwise nat_eq k.items l.items) es key 1)) (ap (λ v. pointwise nat_eq v e.0.items) items ∙ other)
          ∙ ap (λ more. (e.0.items, e.1) ∷ more) (rest (sym (ap (λ b. cond b (Some e.1) (lookup (holds w) es)) other) ∙ absent) items)
          ∙ sym (ap (λ b. if b then (e.0.items, e.1 + 1) ∷ seen es else (e.0.items, e.1) ∷ recount (seen es) w) other)

  -- no count is above all counts together
  pub count_within : (es : List (Vec ℕ Z × ℕ)) (at : ℕ) (key : Vec ℕ Z) (v : ℕ) → slice_get es at ≡ Some (key, v) → v ≤ total (seen es)
  count_within [] at key v there = absurd (no (key, v) there)
    where
      no : (x : Vec ℕ Z × ℕ) → (let none : Option (Vec ℕ Z × ℕ) = None in none) ≡ Some x → ⊥
      no x same = cc
  count_within (e ∷ es) zero key v there =
      let is : e.1 ≡ v = ap (λ (p : Vec ℕ Z × ℕ). p.1) (one e (key, v) there) in
      let all = sum_by-cons (λ (p : List ℕ × ℕ). p.1) (e.0.items, e.1) (seen es) in
      omega arith
  count_within (e ∷ es) (suc at) key v there =
      let within = count_within es at key v there in
      let all = sum_by-cons (λ (p : List ℕ × ℕ). p.1) (e.0.items, e.1) (seen es) in
      omega arith
