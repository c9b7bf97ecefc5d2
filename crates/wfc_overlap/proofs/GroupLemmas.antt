-- What a map from keys to members holds, once a member is added.
use Rattle.std.proofs.Common.{◌≡◌, ℕ, Bool, true, false, cond, List, [], ◌∷◌, ◌++◌, map, Option, None, Some, Vec, refl, sym, ap, ◌∙◌, append-nil}
use Rattle.std.specs.Prelude.{nat_eq, if◌then◌else◌}
use Rattle.std.specs.Cmp.Lexicographic.{pointwise}
use Rattle.std.specs.Map.{lookup, set_value}
use Rattle.std.proofs.lemmas.Bool.{false≢true}
use Rattle.indexmap.specs.IndexMap.{insert_entry}
use Rattle.wfc_model.proofs.CallerLemmas.{same_window-Decides}
use Rattle.wfc_overlap.specs.Sides.{members}

-- two windows that are the same pass the same tests
same_from : (v w : List ℕ) → pointwise nat_eq v w ≡ true → v ≡ w
same_from v w = (same_window-Decides v w).0

-- whether a key is these numbers
abbrev pub holds : {Y : Type 0} → List ℕ → Vec ℕ Y → Bool
holds w key = pointwise nat_eq w key.items

module _ {Y Z : Type 0} where
  -- the keys and the members of a map's entries
  abbrev pub seen : List (Vec ℕ Y × Vec ℕ Z) → List (List ℕ × List ℕ)
  seen es = map (λ (e : Vec ℕ Y × Vec ℕ Z). (e.0.items, e.1.items)) es

  -- the members of a key that is there
  pub members_found : (w : List ℕ) (es : List (Vec ℕ Y × Vec ℕ Z)) (v : Vec ℕ Z) → lookup (holds w) es ≡ Some v → members (seen es) w ≡ v.items
  members_found w [] v found = cc
  members_found w (e ∷ es) v found = by (holds w e.0) refl (members_found w es v)
    where
      by : (b : Bool) → holds w e.0 ≡ b → (lookup (holds w) es ≡ Some v → members (seen es) w ≡ v.items) → members (seen (e ∷ es)) w ≡ v.items
      by true same rest =
          let here : e.1 ≡ v = one e.1 v (sym (ap (λ b. cond b (Some e.1) (lookup (holds w) es)) same) ∙ found) in
          ap (λ b. if b then e.1.items else members (seen es) w) same ∙ ap (λ (u : Vec ℕ Z). u.items) here
        where
          one : (a b : Vec ℕ Z) → (let some : Option (Vec ℕ Z) = Some a in some) ≡ Some b → a ≡ b
          one a b same = cc
      by false other rest = ap (λ b. if b then e.1.items else members (seen es) w) other ∙ rest (sym (ap (λ b. cond b (Some e.1) (lookup (holds w) es)) other) ∙ found)

  -- of one that isn't
  pub members_absent : (w : List ℕ) (es : List (Vec ℕ Y × Vec ℕ Z)) → lookup (holds w) es ≡ None → members (seen es) w ≡ []
  members_absent w [] absent = refl
  members_absent w (e ∷ es) absent = by (holds w e.0) refl (members_absent w es)
    where
      by : (b : Bool) → holds w e.0 ≡ b → (lookup (holds w) es ≡ None → members (seen es) w ≡ []) → members (seen (e ∷ es)) w ≡ []
      by true same rest = absurd (no e.1 (sym (ap (λ b. cond b (Some e.1) (lookup (holds w) es)) same) ∙ absent))
        where
          no : (v : Vec ℕ Z) → (let some : Option (Vec ℕ Z) = Some v in some) ≡ None → ⊥
          no v same = cc
      by false other rest = ap (λ b. if b then e.1.items else members (seen es) w) other ∙ rest (sym (ap (λ b. cond b (Some e.1) (lookup (holds w) es)) other) ∙ absent)

  -- where a key that is there gets other members
  members_set : (w k : List ℕ) (es : List (Vec ℕ Y × Vec ℕ Z)) (v new : Vec ℕ Z) → lookup (holds w) es ≡ Some v → members (seen (set_value (holds w) es new)) k ≡ (if pointwise nat_eq k w then new.items else members (seen es) k)
  members_set w k [] v new found = cc
  members_set w k (e ∷ es) v new found = by (holds w e.0) refl (members_set w k es v new)
    where
      by : (b : Bool) → holds w e.0 ≡ b → (lookup (holds w) es ≡ Some v → members (seen (set_value (holds w) es new)) k ≡ (if pointwise nat_eq k w then new.items else members (seen es) k))
          → members (seen (set_value (holds w) (e ∷ es) new)) k ≡ (if pointwise nat_eq k w then new.items else members (seen (e ∷ es)) k)
      by true same rest =
          ap (λ b. members (seen (cond b ((e.0, new) ∷ es) (e ∷ set_value (holds w) es new))) k) same
          ∙ ap (λ key. if pointwise nat_eq k key then new.items else members (seen es) k) (sym (same_from w e.0.items same))
          ∙ twice (pointwise nat_eq k w)
          ∙ ap (λ key. if pointwise nat_eq k w then new.items else (if pointwise nat_eq k key then e.1.items else members (seen es) k)) (same_from w e.0.items same)
        where
          twice : (b : Bool) → (if b then new.items else members (seen es) k) ≡ (if b then new.items else (if b then e.1.items else members (seen es) k))
          twice true = refl
          twice false = refl
      by false other rest =
          ap (λ b. members (seen (cond b ((e.0, new) ∷ es) (e ∷ set_value (holds w) es new))) k) other
          ∙ ap (λ more. if pointwise nat_eq k e.0.items then e.1.items else more) (rest (sym (ap (λ b. cond b (Some e.1) (lookup (holds w) es)) other) ∙ found))
          ∙ apart (pointwise nat_eq k e.0.items) (pointwise nat_eq k w) refl refl
        where
          apart : (a b : Bool) → pointwise nat_eq k e.0.items ≡ a → pointwise nat_eq k w ≡ b
              → (if a then e.1.items else (if b then new.items else members (seen es) k)) ≡ (if b then new.items else (if a then e.1.items else members (seen es) k))
          apart true true there here = absurd (false≢true (sym other ∙ ap (λ key. pointwise nat_eq key e.0.items) (sym (same_from k w here)) ∙ there))
          apart true false there here = refl
          apart false true there here = refl
          apart false false there here = refl

  -- where a key that isn't there comes with members
  members_new : (w k : List ℕ) (es : List (Vec ℕ Y × Vec ℕ Z)) (key : Vec ℕ Y) (new : Vec ℕ Z) → lookup (holds w) es ≡ None → key.items ≡ w
      → members (seen (insert_entry (λ a b. pointwise nat_eq a.items b.items) es key new)) k ≡ (if pointwise nat_eq k w then new.items else members (seen es) k)
  members_new w k [] key new absent items = ap (λ v. if pointwise nat_eq k v then new.items else []) items
  members_new w k (e ∷ es) key new absent items = by (holds w e.0) refl (members_new w k es key new)
    where
      by : (b : Bool) → holds w e.0 ≡ b → (lookup (holds w) es ≡ None → key.items ≡ w → members (seen (insert_entry (λ a b. pointwise nat_eq a.items b.items) es key new)) k ≡ (if pointwise nat_eq k w then new.items else members (seen es) k))
          → members (seen (insert_entry (λ a b. pointwise nat_eq a.items b.items) (e ∷ es) key new)) k ≡ (if pointwise nat_eq k w then new.items else members (seen (e ∷ es)) k)
      by true same rest = absurd (no e.1 (sym (ap (λ b. cond b (Some e.1) (lookup (holds w) es)) same) ∙ absent))
        where
          no : (v : Vec ℕ Z) → (let some : Option (Vec ℕ Z) = Some v in some) ≡ None → ⊥
          no v same = cc
      by false other rest =
          ap (λ b. members (seen (if b then (e.0, new) ∷ es else e ∷ insert_entry (λ a b. pointwise nat_eq a.items b.items) es key new)) k) (ap (λ v. pointwise nat_eq v e.0.items) items ∙ other)
          ∙ ap (λ more. if pointwise nat_eq k e.0.items then e.1.items else more) (rest (sym (ap (λ b. cond b (Some e.1) (lookup (holds w) es)) other) ∙ absent) items)
          ∙ apart (pointwise nat_eq k e.0.items) (pointwise nat_eq k w) refl refl
        where
          apart : (a b : Bool) → pointwise nat_eq k e.0.items ≡ a → pointwise nat_eq k w ≡ b
              → (if a then e.1.items else (if b then new.items else members (seen es) k)) ≡ (if b then new.items else (if a then e.1.items else members (seen es) k))
          apart true true there here = absurd (false≢true (sym other ∙ ap (λ key. pointwise nat_eq key e.0.items) (sym (same_from k w here)) ∙ there))
          apart true false there here = refl
          apart false true there here = refl
          apart false false there here = refl

  -- a member behind those of its key, by what its key has then
  member_added : (w k : List ℕ) (es : List (Vec ℕ Y × Vec ℕ Z)) (old : List ℕ) (m : ℕ) (now : List ℕ) → members (seen es) w ≡ old → now ≡ (if pointwise nat_eq k w then old ++ m ∷ [] else members (seen es) k)
      → now ≡ members (seen es) k ++ (if pointwise nat_eq k w then m ∷ [] else [])
  member_added w k es old m now were is = is ∙ by (pointwise nat_eq k w) refl
    where
      by : (b : Bool) → pointwise nat_eq k w ≡ b → (if b then old ++ m ∷ [] else members (seen es) k) ≡ members (seen es) k ++ (if b then m ∷ [] else [])
      by true same = ap (λ ms. ms ++ m ∷ []) (sym were ∙ ap (members (seen es)) (sym (same_from k w same)))
      by false other = sym (append-nil (members (seen es) k))

  -- to a key that is there
  pub added_there : (w k : List ℕ) (es : List (Vec ℕ Y × Vec ℕ Z)) (v new : Vec ℕ Z) (m : ℕ) → lookup (holds w) es ≡ Some v → new.items ≡ v.items ++ m ∷ []
      → members (seen (set_value (holds w) es new)) k ≡ members (seen es) k ++ (if pointwise nat_eq k w then m ∷ [] else [])
  added_there w k es v new m found pushed =
      member_added w k es v.items m (members (seen (set_value (holds w) es new)) k) (members_found w es v found)
      (members_set w k es v new found ∙ ap (λ ms. if pointwise nat_eq k w then ms else members (seen es) k) pushed)

  -- to a new one
  pub added_new : (w k : List ℕ) (es : List (Vec ℕ Y × Vec ℕ Z)) (key : Vec ℕ Y) (new : Vec ℕ Z) (m : ℕ) → lookup (holds w) es ≡ None → key.items ≡ w → new.items ≡ m ∷ []
      → members (seen (insert_entry (λ a b. pointwise nat_eq a.items b.items) es key new)) k ≡ members (seen es) k ++ (if pointwise nat_eq k w then m ∷ [] else [])
  added_new w k es key new m absent items pushed =
      member_added w k es [] m (members (seen (insert_entry (λ a b. pointwise nat_eq a.items b.items) es key new)) k) (members_absent w es absent)
      (members_new w k es key new absent items ∙ ap (λ ms. if pointwise nat_eq k w then ms else members (seen es) k) pushed)
