-- Removals as numbers, and back.
use Rattle.std.proofs.Common.{◌≡◌, ◌≢◌, ◌≤◌, ◌⊎◌, inl, inr, ℕ, zero, suc, ◌+◌, ◌*◌, ◌/◌, ◌%◌, ◌<◌, List, [], ◌∷◌, ◌++◌, length, get_or, take, map, refl, sym, ◌∙◌, ap, arith}
use Rattle.std.specs.Prelude.{slice_get, slice_index, Some}
use Rattle.std.proofs.lemmas.Bool.{cond-true, cond-false, eq-eqb, ne_eqb}
use Rattle.std.proofs.lemmas.List.{nil_from_length}
use Rattle.std.proofs.lemmas.Nat.{mul-add-lt, div-mul-add, mod-mul-add}
use Rattle.std.proofs.Math.Nat.{div-add-mod, div-lt_iff_lt-mul}
use Rattle.std.proofs.lemmas.Option.{get_or_from_slice_get, slice_get_within}
use Rattle.wfc_log.specs.declared.Cause.{Cause}
use Rattle.wfc_log.specs.declared.Cause.TheVariants.{Assumed, Arc}
use Rattle.wfc_log.specs.declared.Removal.{Removal}
use Rattle.wfc_log.specs.Log.{IsCauseBelow, cells_of, fewer_at, loss_of, sizes_after}
use Rattle.wfc_log.specs.Numbered.{cause_number, numbered_cause, removal_count, removal_number, placed_cell, placed_loss, placed_removal, placed_removals, number_from, numbers_from, wide_limit}

-- a cause's number is one of those of causes
pub cause-few : (k : ℕ) (c : Cause) → IsCauseBelow k c → cause_number k c < k + 1
cause-few k Assumed h = omega arith
cause-few k (Arc d) h = omega arith

-- and tells the cause
pub cause-back : (k : ℕ) (c : Cause) → IsCauseBelow k c → numbered_cause k (cause_number k c) ≡ c
cause-back k Assumed h = cond-true _ _ _ (eq-eqb k k refl)
cause-back k (Arc d) h = let ne : d ≢ k = omega arith in cond-false _ _ _ (ne_eqb d k ne)

-- the number of a removal's cell, value and cause is one of those that there are
pub place-few : (cells values dirs : ℕ) (r : Removal) → r.cell < cells → r.value < values → IsCauseBelow dirs r.cause → removal_number values dirs r < removal_count cells values dirs
place-few cells values dirs r hc hv hd =
    let pair : r.cell * values + r.value < cells * values = omega (arith, mul-add-lt r.cell values r.value cells hc hv) in
    omega (arith, mul-add-lt (r.cell * values + r.value) (dirs + 1) (cause_number dirs r.cause) (cells * values) pair (cause-few dirs r.cause hd))

-- and tells the cell
pub place-cell : (values dirs : ℕ) (r : Removal) → r.value < values → IsCauseBelow dirs r.cause → placed_cell values dirs (removal_number values dirs r) ≡ r.cell
place-cell values dirs r hv hd =
    ap (λ n. n / values) (div-mul-add (r.cell * values + r.value) (dirs + 1) (cause_number dirs r.cause) (cause-few dirs r.cause hd))
    ∙ div-mul-add r.cell values r.value hv

-- and the removal
pub place-back : (values dirs : ℕ) (r : Removal) → r.value < values → IsCauseBelow dirs r.cause → placed_removal values dirs (removal_number values dirs r) r.before ≡ r
place-back values dirs r hv hd = λ i. record { cell = place-cell values dirs r hv hd i; value = value i; before = r.before; cause = cause i }
  where
    k : ℕ
    k = dirs + 1

    x : ℕ
    x = cause_number dirs r.cause

    p : ℕ
    p = r.cell * values + r.value

    value : removal_number values dirs r / k % values ≡ r.value
    value = ap (λ n. n % values) (div-mul-add p k x (cause-few dirs r.cause hd)) ∙ mod-mul-add r.cell values r.value hv

    cause : numbered_cause dirs (removal_number values dirs r % k) ≡ r.cause
    cause = ap (numbered_cause dirs) (mod-mul-add p k x (cause-few dirs r.cause hd)) ∙ cause-back dirs r.cause hd

-- the cell of a number is one of those that there are
pub cell-few : (cells values dirs n : ℕ) → 0 < values → n < removal_count cells values dirs → placed_cell values dirs n < cells
cell-few cells values dirs n some h =
    let k_some : 0 < dirs + 1 = omega arith in
    let pair = (div-lt_iff_lt-mul {x = n} {y = cells * values} k_some).1 h in
    (div-lt_iff_lt-mul {x = n / (dirs + 1)} {y = cells} some).1 pair

-- wide numbers are enough for a problem
pub number-limit : (p d : ℕ) → p ≤ 8388608 → (d ≡ 4) ⊎ (d ≡ 6) → p * (d + 1) ≤ wide_limit
number-limit p d few dirs =
    let times : (k : ℕ) → d ≡ k → p * (d + 1) ≡ p * (k + 1) = λ k e. ap (λ n. p * (n + 1)) e in
    elim dirs [
      | inl four ↦ omega (arith, times 4 four, few)
      | inr six ↦ omega (arith, times 6 six, few)
    ]

-- ---- removals from numbers

-- the cells of the removals with these numbers
pub placed-cells : (values dirs : ℕ) (s ns : List ℕ) → cells_of (placed_removals values dirs s ns) ≡ map (placed_cell values dirs) ns
placed-cells values dirs s [] = refl
placed-cells values dirs s (n ∷ ns) = ap (λ cs. placed_cell values dirs n ∷ cs) (placed-cells values dirs (fewer_at s (placed_cell values dirs n)) ns)

-- as many removals as numbers
pub placed-length : (values dirs : ℕ) (s ns : List ℕ) → length (placed_removals values dirs s ns) ≡ length ns
placed-length values dirs s [] = refl
placed-length values dirs s (n ∷ ns) = ap suc (placed-length values dirs (fewer_at s (placed_cell values dirs n)) ns)

-- what each took away, from its number
placed-loss : (values dirs : ℕ) (s ns : List ℕ) (i d : ℕ) (e : Removal) → i < length ns → loss_of (get_or (placed_removals values dirs s ns) i e) ≡ placed_loss values dirs (get_or ns i d)
placed-loss values dirs s [] i d e inside = absurd (omega (arith, inside))
placed-loss values dirs s (x ∷ ns) zero d e inside = refl
placed-loss values dirs s (x ∷ ns) (suc i) d e inside = placed-loss values dirs (fewer_at s (placed_cell values dirs x)) ns i d e (omega (arith, inside))

pub placed-at : (values dirs : ℕ) (s ns : List ℕ) (i n : ℕ) (r : Removal) → slice_get ns i ≡ Some n → slice_get (placed_removals values dirs s ns) i ≡ Some r → loss_of r ≡ placed_loss values dirs n
placed-at values dirs s ns i n r number removal =
    ap loss_of (sym (get_or_from_slice_get (placed_removals values dirs s ns) i r r removal))
    ∙ placed-loss values dirs s ns i n r (slice_get_within ns i n number)
    ∙ ap (placed_loss values dirs) (get_or_from_slice_get ns i n n number)

-- one number more
pub placed-push : (values dirs : ℕ) (s ns : List ℕ) (n : ℕ)
    → placed_removals values dirs s (ns ++ n ∷ []) ≡ placed_removals values dirs s ns ++ placed_removal values dirs n (slice_index (sizes_after s (map (placed_cell values dirs) ns)) (placed_cell values dirs n)) ∷ []
placed-push values dirs s [] n = refl
placed-push values dirs s (x ∷ ns) n =
    let c = placed_cell values dirs x in
    ap (λ rs. placed_removal values dirs x (slice_index s c) ∷ rs) (placed-push values dirs (fewer_at s c) ns n)

-- ---- numbers in two parts

-- a number from its two parts
pub number-parts : (b n : ℕ) → number_from b (n % b) (n / b) ≡ n
number-parts b n = div-add-mod n b

-- as many numbers as low parts
pub numbers-length : (b : ℕ) (ns hs : List ℕ) → length hs ≡ length ns → length (numbers_from b ns hs) ≡ length ns
numbers-length b [] hs l = refl
numbers-length b (n ∷ ns) [] l = absurd (omega (arith, l))
numbers-length b (n ∷ ns) (h ∷ hs) l = ap suc (numbers-length b ns hs (omega (arith, l)))

-- one number more
pub numbers-push : (b : ℕ) (ns hs : List ℕ) (n h : ℕ) → length hs ≡ length ns → numbers_from b (ns ++ n ∷ []) (hs ++ h ∷ []) ≡ numbers_from b ns hs ++ number_from b n h ∷ []
numbers-push b [] [] n h l = refl
numbers-push b [] (y ∷ hs) n h l = absurd (omega (arith, l))
numbers-push b (x ∷ ns) [] n h l = absurd (omega (arith, l))
numbers-push b (x ∷ ns) (y ∷ hs) n h l = ap (λ rs. number_from b x y ∷ rs) (numbers-push b ns hs n h (omega (arith, l)))

-- the first numbers
pub numbers-take : (b k : ℕ) (ns hs : List ℕ) → numbers_from b (take k ns) (take k hs) ≡ take k (numbers_from b ns hs)
numbers-take b zero ns hs = refl
numbers-take b (suc k) [] hs = refl
numbers-take b (suc k) (n ∷ ns) [] = refl
numbers-take b (suc k) (n ∷ ns) (h ∷ hs) = ap (λ rs. number_from b n h ∷ rs) (numbers-take b k ns hs)

-- the number at an index
pub numbers-at : (b : ℕ) (ns hs : List ℕ) (i n h : ℕ) → slice_get ns i ≡ Some n → slice_get hs i ≡ Some h → slice_get (numbers_from b ns hs) i ≡ Some (number_from b n h)
numbers-at b [] hs i n h l m = cc
numbers-at b (x ∷ ns) [] i n h l m = cc
numbers-at b (x ∷ ns) (y ∷ hs) zero n h l m = let p : x ≡ n = cc in let q : y ≡ h = cc in λ i. Some (number_from b (p i) (q i))
numbers-at b (x ∷ ns) (y ∷ hs) (suc i) n h l m = numbers-at b ns hs i n h l m

-- a list with its last element
pub split-last : {X : Type 0} (xs : List X) (n : ℕ) (x : X) → slice_get xs n ≡ Some x → length xs ≡ n + 1 → xs ≡ take n xs ++ x ∷ []
split-last [] n x e l = absurd (omega (arith, l))
split-last (y ∷ ys) zero x e l = let p : y ≡ x = cc in ap (λ zs. y ∷ zs) (nil_from_length ys (omega (arith, l))) ∙ ap (λ z. z ∷ []) p
split-last (y ∷ ys) (suc n) x e l = ap (λ zs. y ∷ zs) (split-last ys n x e (omega (arith, l)))
