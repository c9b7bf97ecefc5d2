-- Where the counters of a problem stand in their table.
use Rattle.std.proofs.Common.{◌≡◌, ℕ, zero, suc, ◌≤◌, ◌+◌, ◌*◌, ◌/◌, ◌%◌, ◌<◌, get_or, map, sym, ◌∙◌, ap, arith, inl, inr}
use Rattle.std.specs.List.{range_with_len}
use Rattle.std.proofs.lemmas.Bool.{cases_lt}
use Rattle.std.proofs.lemmas.List.{ext_get_or}
use Rattle.std.proofs.lemmas.List.FromFn.{get_or-map-range_with_len, length-map-range_with_len}
use Rattle.std.proofs.lemmas.Nat.{same_from_place, mul-add-lt, div-add-mod', div_below, div-mul-add, mod-mul-add}
use Rattle.std.proofs.Math.Nat.{mod-lt, mul-le-mul_right}
use Rattle.wfc_problem.specs.Network.{Network, values}
use Rattle.wfc_problem.specs.Domains.{Test, support_count}
use Rattle.wfc_domains.specs.Counters.{Table, FitsTable, entry_of, counts_of, count_place, counter_place}

-- a place tells its cell, value and direction
pub place-same : (P : Network) (c v d c' v' d' : ℕ) → v < values P → v' < values P → d < P.dirs → d' < P.dirs → counter_place P c v d ≡ counter_place P c' v' d' → (c ≡ c') × (v ≡ v') × (d ≡ d')
place-same P c v d c' v' d' hv hv' hd hd' e =
    let outer = same_from_place (c * values P + v) d (c' * values P + v') d' P.dirs hd hd' e in
    let inner = same_from_place c v c' v' (values P) hv hv' outer.0 in
    (inner.0, inner.1, outer.1)

-- a place is in the table
pub place_in-lt : (n k c v d cells : ℕ) → c < cells → v < n → d < k → count_place n k c v d < (cells * n) * k
place_in-lt n k c v d cells hc hv hd =
    let row : c * n + v < cells * n = omega (arith, mul-add-lt c n v cells hc hv) in
    omega (arith, mul-add-lt (c * n + v) k d (cells * n) row hd)

-- and so are the places of a value at a cell in all directions, which are few
pub rows_in : (n k c v cells : ℕ) → c < cells → v < n → 0 < k → (c * n ≤ (cells * n) * k) × (c * n + v ≤ (cells * n) * k) × ((c * n + v) * k + k ≤ (cells * n) * k)
rows_in n k c v cells hc hv hk =
    let row : c * n + v < cells * n = omega (arith, mul-add-lt c n v cells hc hv) in
    let all : (c * n + v + 1) * k ≤ (cells * n) * k = mul-le-mul_right k (let z : c * n + v + 1 ≤ cells * n = omega arith in z) in
    let some : cells * n ≤ (cells * n) * k = le-mul (cells * n) k hk in
    (omega arith, omega arith, omega (arith, all))
  where
    le-mul : (a k : ℕ) → 0 < k → a ≤ a * k
    le-mul a zero h = absurd (omega arith)
    le-mul a (suc k) h = omega arith

-- where a table of the problem has it
pub place-is : (P : Network) (T : Table) → FitsTable P T → (c v d : ℕ) → counter_place P c v d ≡ count_place T.values T.dirs c v d
place-is P T h c v d = sym (ap (λ x. count_place x T.dirs c v d) h.same_values ∙ ap (λ x. count_place (values P) x c v d) h.same_dirs)

-- a number below a * n is in one of a rows
pub row_at : (a n i : ℕ) → i < a * n → (c : ℕ) × (v : ℕ) × (c < a) × (v < n) × (i ≡ c * n + v)
row_at a n i h = elim (cases_lt 0 n) [
  | inl pos ↦ (i / n, i % n, div_below i n a pos h, mod-lt i pos, sym (div-add-mod' i n))
  | inr l ↦ let e : n ≡ 0 = omega arith in let same = ap (λ x. a * x) e in absurd (omega arith)
]

-- a table with the right count at each place is the table of counts
pub counts_are : (P : Network) (D : Test) (T : Table) → FitsTable P T → ((c v d : ℕ) → c < P.cells → v < values P → d < P.dirs → entry_of T c v d ≡ support_count P D c v d) → T ≡ counts_of P D T.limit
counts_are P D T h each = λ i. record { cells = h.same_cells i; values = h.same_values i; dirs = h.same_dirs i; limit = T.limit; counts = counts i }
  where
    n : ℕ
    n = values P

    k : ℕ
    k = P.dirs

    f : ℕ → ℕ
    f i = support_count P D (i / k / n) (i / k % n) (i % k)

    counts : T.counts ≡ map (λ i. support_count P D (i / k / n) (i / k % n) (i % k)) (range_with_len 0 ((P.cells * n) * k))
    counts = ext_get_or 0 T.counts _ (h.whole ∙ sym (length-map-range_with_len f 0 ((P.cells * n) * k))) (λ i l.
        let hi : i < (P.cells * n) * k = omega (arith, h.whole) in
        let outer = row_at (P.cells * n) k i hi in
        let inner = row_at P.cells n outer.0 outer.2 in
        let e : i ≡ counter_place P inner.0 inner.1 outer.1 = outer.4 ∙ ap (λ x. x * P.dirs + outer.1) inner.4 in
        let q : i / k ≡ outer.0 = ap (λ x. x / k) outer.4 ∙ div-mul-add outer.0 k outer.1 outer.3 in
        let d : i % k ≡ outer.1 = ap (λ x. x % k) outer.4 ∙ mod-mul-add outer.0 k outer.1 outer.3 in
        let c : i / k / n ≡ inner.0 = ap (λ x. x / n) (q ∙ inner.4) ∙ div-mul-add inner.0 n inner.1 inner.3 in
        let v : i / k % n ≡ inner.1 = ap (λ x. x % n) (q ∙ inner.4) ∙ mod-mul-add inner.0 n inner.1 inner.3 in
        ap (λ x. get_or T.counts x 0) (e ∙ place-is P T h inner.0 inner.1 outer.1) ∙ each inner.0 inner.1 outer.1 inner.2 inner.3 outer.3
        ∙ sym (ap (λ x. support_count P D x (i / k % n) (i % k)) c ∙ ap (λ x. support_count P D inner.0 x (i % k)) v ∙ ap (support_count P D inner.0 inner.1) d)
        ∙ sym (get_or-map-range_with_len f 0 ((P.cells * n) * k) i i 0 hi (omega arith)))
