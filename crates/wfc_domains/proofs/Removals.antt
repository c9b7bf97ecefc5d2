-- Removals in order: what they leave, what stood, and how many they can be.
use Rattle.std.proofs.Common.{◌≡◌, ◌≢◌, ℕ, suc, ◌+◌, ◌<◌, ◌≤◌, Bool, true, false, List, [], ◌∷◌, ◌++◌, length, take, drop, get_or, refl, sym, ◌∙◌, ap, subst, arith}
use Rattle.std.specs.Prelude.{not, ◌&&◌, ◌==◌, IsTrue, count_by}
use Rattle.std.specs.List.{range_with_len, sum_by}
use Rattle.std.specs.List.Sorted.{IsStrictlyIncreasing}
use Rattle.std.proofs.lemmas.Bool.{false≢true, and_parts, eqb-true, eq-eqb}
use Rattle.std.proofs.lemmas.Bool.Decides.{nat_tests}
use Rattle.std.proofs.lemmas.List.{take-append-drop}
use Rattle.std.proofs.lemmas.List.Sums.{length-filter, sum_by-cons}
use Rattle.std.proofs.lemmas.List.FromFn.{length-range_with_len}
use Rattle.wfc_lists.specs.Counts.{but}
use Rattle.wfc_lists.proofs.Counts.{count_by-le, count_by_agree, count_by_but, sum_by_less}
use Rattle.wfc_lists.proofs.Ranges.{range_at, range_Contains}
use Rattle.wfc_problem.specs.Network.{Network, values, in_base, IsProblem}
use Rattle.wfc_problem.specs.Domains.{Test, Within}
use Rattle.wfc_problem.specs.Rounds.{pairs, depth_of}
use Rattle.wfc_problem.specs.Sizes.{size_at}
use Rattle.wfc_problem.specs.declared.Literal.{Literal}
use Rattle.wfc_log.specs.declared.Removal.{Removal}
use Rattle.wfc_log.specs.Domains.{less}
use Rattle.wfc_domains.specs.Removals.{without, IsRemoved, AreRemoved}
use Rattle.wfc_domains.specs.Board.{AreStood}
use Rattle.wfc_domains.proofs.Problems.{base-in}

-- ---- one value less

-- what stands without a value stood with it
pub less-within : (D : Test) (cell value : ℕ) → Within (less D cell value) D
less-within D cell value c v h = (and_parts _ _ h).0

-- what is not the value goes on standing
pub less-keeps : (D : Test) (cell value c v : ℕ) → IsTrue (D c v) → ((c ≡ cell) → v ≡ value → ⊥) → IsTrue (less D cell value c v)
less-keeps D cell value c v h other = grind (arith, nat_tests)

-- the value does not
pub less-gone : (D : Test) (c v : ℕ) → less D c v c v ≡ false
less-gone D c v = gone (D c v) (c == c) (v == v) (eq-eqb c c refl) (eq-eqb v v refl)
  where
    gone : (x a b : Bool) → a ≡ true → b ≡ true → (x && not (a && b)) ≡ false
    gone x a b e f = grind arith

pub less-lacks : (D : Test) (c v : ℕ) → less D c v c v ≡ true → ⊥
less-lacks D c v t = false≢true (sym (less-gone D c v) ∙ t)

-- at the cell the test fails at one number more
pub less-here : (D : Test) (c v w : ℕ) → less D c v c w ≡ but (D c) v w
less-here D c v w = ap (λ b. D c w && not (b && w == v)) (eq-eqb c c refl)

-- elsewhere it is as before
pub less-elsewhere : (D : Test) (c v n w : ℕ) → n ≢ c → less D c v n w ≡ D n w
less-elsewhere D c v n w h = grind (arith, nat_tests)

-- domains within others that lack the value lie within them without it
pub less-contains : (E D : Test) (cell value : ℕ) → Within E D → (E cell value ≡ true → ⊥) → Within E (less D cell value)
less-contains E D cell value h lacks c v t =
    less-keeps D cell value c v (h c v t) (λ e f. lacks (ap (λ x. E x value) (sym e) ∙ ap (λ y. E c y) (sym f) ∙ t))

-- the same less the same
pub less-back : (D E : Test) (cell value : ℕ) → less D cell value ≡ less E cell value → IsTrue (D cell value) → IsTrue (E cell value) → D ≡ E
less-back D E cell value e s t = λ i c v. each c v i
  where
    same_but : (a b t : Bool) → (a && not t) ≡ (b && not t) → (t ≡ true → a ≡ b) → a ≡ b
    same_but a b t e h = grind arith

    each : (c v : ℕ) → D c v ≡ E c v
    each c v = same_but (D c v) (E c v) (c == cell && v == value) (ap (λ f. f c v) e) (λ both.
        let parts = and_parts _ _ both in
        let ec = eqb-true c cell parts.0 in
        let ev = eqb-true v value parts.1 in
        ap (λ x. D x v) ec ∙ ap (D cell) ev ∙ s ∙ sym (ap (λ x. E x v) ec ∙ ap (E cell) ev ∙ t))

-- ---- what removals leave

pub without-within : (D : Test) (rs : List Removal) → Within (without D rs) D
without-within D [] c v h = h
without-within D (r ∷ rs) c v h = less-within D r.cell r.value c v (without-within (less D r.cell r.value) rs c v h)

-- a removal at the end
pub without-push : (D : Test) (rs : List Removal) (r : Removal) → without D (rs ++ r ∷ []) ≡ less (without D rs) r.cell r.value
without-push D [] r = refl
without-push D (x ∷ rs) r = without-push (less D x.cell x.value) rs r

pub without-append : (D : Test) (rs ss : List Removal) → without D (rs ++ ss) ≡ without (without D rs) ss
without-append D [] ss = refl
without-append D (x ∷ rs) ss = without-append (less D x.cell x.value) rs ss

-- the front, and then the rest
pub without-split : (D : Test) (rs : List Removal) (k : ℕ) → without (without D (take k rs)) (drop k rs) ≡ without D rs
without-split D rs k = sym (without-append D (take k rs) (drop k rs)) ∙ ap (without D) (take-append-drop k rs)

-- what stands after all stood after the front
pub without-front : (D : Test) (rs : List Removal) (k : ℕ) → Within (without D rs) (without D (take k rs))
without-front D rs k c v t = without-within (without D (take k rs)) (drop k rs) c v (ap (λ f. f c v) (without-split D rs k) ∙ t)

-- only pairs of the problem stand
pub without-in : (P : Network) → IsProblem P → (rs : List Removal) (c v : ℕ) → IsTrue (without (in_base P) rs c v) → (c < P.cells) × (v < values P)
without-in P p rs c v t = base-in P p c v (without-within (in_base P) rs c v t)

-- ---- what stood

pub stood-push : (D : Test) (rs : List Removal) (r : Removal) → AreStood D rs → IsTrue (without D rs r.cell r.value) → AreStood D (rs ++ r ∷ [])
stood-push D [] r s here = (here, tt)
stood-push D (x ∷ rs) r s here = (s.0, stood-push (less D x.cell x.value) rs r s.1 here)

pub stood-front : (D : Test) (rs : List Removal) (r : Removal) → AreStood D (rs ++ r ∷ []) → AreStood D rs × IsTrue (without D rs r.cell r.value)
stood-front D [] r s = (tt, s.0)
stood-front D (x ∷ rs) r s = let rest = stood-front (less D x.cell x.value) rs r s.1 in ((s.0, rest.0), rest.1)

-- a range rises
rising-range : (n : ℕ) → IsStrictlyIncreasing (range_with_len 0 n)
rising-range n k l =
    let e = length-range_with_len 0 n in
    omega (arith, range_at n k (omega arith), range_at n (k + 1) (omega arith))

-- a size falls by one where a value goes
pub size-less : (P : Network) (D : Test) (c v : ℕ) → v < values P → IsTrue (D c v) → size_at P (less D c v) c + 1 ≡ size_at P D c
size-less P D c v hv t =
    let xs = range_with_len 0 (values P) in
    let same = count_by_agree (less D c v c) (but (D c) v) xs (less-here D c v) in
    let falls = count_by_but (D c) v xs (rising-range (values P)) (range_Contains (values P) v hv) t in
    omega (arith, length-filter (less D c v c) xs, length-filter (D c) xs)

-- and stays elsewhere
pub size-other : (P : Network) (D : Test) (c v n : ℕ) → n ≢ c → size_at P (less D c v) n ≡ size_at P D n
size-other P D c v n ne =
    let xs = range_with_len 0 (values P) in
    length-filter (less D c v n) xs ∙ count_by_agree (less D c v n) (D n) xs (λ w. less-elsewhere D c v n w ne) ∙ sym (length-filter (D n) xs)

-- a pair less
pub pairs-less : (P : Network) (D : Test) (c v : ℕ) → c < P.cells → v < values P → IsTrue (D c v) → pairs P (less D c v) < pairs P D
pairs-less P D c v hc hv t =
    let xs = range_with_len 0 (values P) in
    let falls = size-less P D c v hv t in
    sum_by_less (λ n. count_by (less D c v n) xs) (λ n. count_by (D n) xs) c (range_with_len 0 P.cells)
    (λ n. count_by-le (less D c v n) (D n) xs (λ w. less-within D c v n w))
    (range_Contains P.cells c hc)
    (omega (arith, length-filter (less D c v c) xs, length-filter (D c) xs))

-- there are no more removals than pairs
pub stood-few : (P : Network) (D : Test) (rs : List Removal) → ((c v : ℕ) → IsTrue (D c v) → (c < P.cells) × (v < values P)) → AreStood D rs → pairs P (without D rs) + length rs ≤ pairs P D
stood-few P D [] inside s = omega arith
stood-few P D (r ∷ rs) inside s =
    let range = inside r.cell r.value s.0 in
    let fewer = pairs-less P D r.cell r.value range.0 range.1 s.0 in
    let rest = stood-few P (less D r.cell r.value) rs (λ c v t. inside c v (less-within D r.cell r.value c v t)) s.1 in
    omega arith

-- a sum of terms above 0 is no less than their number
terms-few : (f : ℕ → ℕ) (xs : List ℕ) → ((i : ℕ) → i < length xs → 0 < f (get_or xs i 0)) → length xs ≤ sum_by f xs
terms-few f [] each = omega arith
terms-few f (x ∷ xs) each =
    let rest = terms-few f xs (λ i l. each (suc i) (omega arith)) in
    omega (arith, each 0 (omega arith), sum_by-cons f x xs)

-- where each cell has a value there are as many pairs as cells, or more
pub pairs-filled : (P : Network) (D : Test) → ((c : ℕ) → c < P.cells → 0 < size_at P D c) → P.cells ≤ pairs P D
pairs-filled P D filled =
    let xs = range_with_len 0 (values P) in
    let e = length-range_with_len 0 P.cells in
    omega (
      arith,
      e,
      terms-few (λ c. count_by (D c) xs) (range_with_len 0 P.cells)
          (λ i l. subst (λ c. 0 < count_by (D c) xs) (sym (range_at P.cells i (omega arith))) (omega (arith, filled i (omega arith), length-filter (D i) xs))),
    )

-- then there are so many removals fewer than pairs
pub stood-room : (P : Network) → IsProblem P → (rs : List Removal) → AreStood (in_base P) rs
    → ((c : ℕ) → c < P.cells → 0 < size_at P (without (in_base P) rs) c) → length rs + P.cells ≤ depth_of P
stood-room P p rs s filled =
    omega (arith, stood-few P (in_base P) rs (λ c v t. base-in P p c v t) s, pairs-filled P (without (in_base P) rs) filled)

-- ---- what was removed for a cause

pub removed-push : (P : Network) (literals : List Literal) (D : Test) (rs : List Removal) (r : Removal) → AreRemoved P literals D rs → IsRemoved P literals (without D rs) r → AreRemoved P literals D (rs ++ r ∷ [])
removed-push P literals D [] r k here = (here, tt)
removed-push P literals D (x ∷ rs) r k here = (k.0, removed-push P literals (less D x.cell x.value) rs r k.1 here)
