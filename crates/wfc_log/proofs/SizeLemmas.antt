-- Sizes of cells, as values go one after another.
use Rattle.std.proofs.Common.{◌≡◌, ◌≤◌, ℕ, zero, suc, ◌+◌, ◌-◌, ◌<◌, List, [], ◌∷◌, ◌++◌, length, take, refl, sym, ◌∙◌, ap, subst, arith}
use Rattle.std.specs.Prelude.{slice_index, slice_index_or}
use Rattle.std.proofs.lemmas.List.{append-nil, append_assoc, length-set}
use Rattle.wfc_log.specs.declared.Removal.{Removal}
use Rattle.wfc_log.specs.Log.{Extent, IsLogged, AreLogged, cells_of, fewer_at, sizes_after}
use Rattle.wfc_log.specs.Numbered.{more_at, sizes_before}

-- one more and one fewer
pub fewer-more : (s : List ℕ) (c : ℕ) → fewer_at (more_at s c) c ≡ s
fewer-more [] c = refl
fewer-more (x ∷ s) zero = let e : x + 1 - 1 ≡ x = omega arith in ap (λ y. y ∷ s) e
fewer-more (x ∷ s) (suc c) = ap (λ t. x ∷ t) (fewer-more s c)

-- one fewer and one more
pub more-fewer : (s : List ℕ) (c : ℕ) → 0 < slice_index s c → more_at (fewer_at s c) c ≡ s
more-fewer [] c h = refl
more-fewer (x ∷ s) zero h = let e : x - 1 + 1 ≡ x = omega (arith, h) in ap (λ y. y ∷ s) e
more-fewer (x ∷ s) (suc c) h = ap (λ t. x ∷ t) (more-fewer s c h)

-- one more leaves no cell fewer
more-least : (s : List ℕ) (d c : ℕ) → slice_index s c ≤ slice_index (more_at s d) c
more-least [] d c = omega arith
more-least (x ∷ s) zero zero = omega arith
more-least (x ∷ s) zero (suc c) = omega arith
more-least (x ∷ s) (suc d) zero = omega arith
more-least (x ∷ s) (suc d) (suc c) = more-least s d c

-- all back, and all gone again
pub after-before : (s cs : List ℕ) → sizes_after (sizes_before s cs) cs ≡ s
after-before s [] = refl
after-before s (c ∷ cs) = ap (λ t. sizes_after t cs) (fewer-more (sizes_before s cs) c) ∙ after-before s cs

-- one more at the end
pub before-push : (s cs : List ℕ) (c : ℕ) → sizes_before s (cs ++ c ∷ []) ≡ sizes_before (more_at s c) cs
before-push s [] c = refl
before-push s (d ∷ cs) c = ap (λ t. more_at t d) (before-push s cs c)

pub after-push : (s cs : List ℕ) (c : ℕ) → sizes_after s (cs ++ c ∷ []) ≡ fewer_at (sizes_after s cs) c
after-push s [] c = refl
after-push s (d ∷ cs) c = after-push (fewer_at s d) cs c

-- no cell had fewer before
pub before-least : (s cs : List ℕ) (c : ℕ) → slice_index s c ≤ slice_index (sizes_before s cs) c
before-least s [] c = omega arith
before-least s (d ∷ cs) c = omega (arith, before-least s cs c, more-least (sizes_before s cs) d c)

-- there are as many cells as before
pub before-length : (s cs : List ℕ) → length (sizes_before s cs) ≡ length s
before-length s [] = refl
before-length s (c ∷ cs) = length-set (sizes_before s cs) c _ ∙ before-length s cs

-- ---- logged removals

-- those of a front and those of the rest
pub logged-split : (e : Extent) (s : List ℕ) (xs ys : List Removal) → AreLogged e s (xs ++ ys) → AreLogged e s xs × AreLogged e (sizes_after s (cells_of xs)) ys
logged-split e s [] ys h = (tt, h)
logged-split e s (x ∷ xs) ys h = let rest = logged-split e (fewer_at s x.cell) xs ys h.1 in ((h.0, rest.0), rest.1)

-- one more
pub logged-push : (e : Extent) (s : List ℕ) (xs : List Removal) (r : Removal) → AreLogged e s xs → IsLogged e (sizes_after s (cells_of xs)) r → AreLogged e s (xs ++ r ∷ [])
logged-push e s [] r h l = (l, tt)
logged-push e s (x ∷ xs) r h l = (h.0, logged-push e (fewer_at s x.cell) xs r h.1 l)

-- one that is logged behind a log, and those before it
pub logged-at : (e : Extent) (s : List ℕ) (xs ys : List Removal) (i : ℕ) (d : Removal) → AreLogged e (sizes_after s (cells_of xs)) ys → i < length ys
    → IsLogged e (sizes_after s (cells_of (xs ++ take i ys))) (slice_index_or ys i d)
logged-at e s xs [] i d h l = absurd (omega (arith, l))
logged-at e s xs (y ∷ ys) zero d h l = subst (λ zs. IsLogged e (sizes_after s (cells_of zs)) y) (sym (append-nil xs)) h.0
logged-at e s xs (y ∷ ys) (suc i) d h l =
    let rest : AreLogged e (sizes_after s (cells_of (xs ++ y ∷ []))) ys = subst (λ t. AreLogged e t ys) (sym (cells-push s xs y)) h.1 in
    subst (λ zs. IsLogged e (sizes_after s (cells_of zs)) (slice_index_or ys i d)) (append_assoc xs (y ∷ []) (take i ys)) (logged-at e s (xs ++ y ∷ []) ys i d rest (omega (arith, l)))
  where
    cells-push : (s : List ℕ) (xs : List Removal) (y : Removal) → sizes_after s (cells_of (xs ++ y ∷ [])) ≡ fewer_at (sizes_after s (cells_of xs)) y.cell
    cells-push s [] y = refl
    cells-push s (x ∷ xs) y = cells-push (fewer_at s x.cell) xs y
