-- One flag of a row is written.
use Rattle.std.proofs.Common.{◌≡◌, ℕ, ◌+◌, ◌-◌, ◌*◌, ◌<◌, ◌≤◌, Bool, true, false, cond, List, length, get_or, set, refl, sym, ◌∙◌, ap, arith, inl, inr}
use Rattle.std.specs.Prelude.{not, ◌&&◌, ◌==◌, count_by, filter, slice_index}
use Rattle.std.proofs.lemmas.List.{length-set, get_or-set_same, get_or-set_other, get_or_past}
use Rattle.std.proofs.lemmas.List.Sums.{sum_by-set, get_or-le-sum_by}
use Rattle.std.proofs.lemmas.Bool.{cases_eq, cases_lt, eq-eqb, cond-false, cases_Bool, and_parts, and_from, eqb-true}
use Rattle.std.specs.List.{range_with_len}
use Rattle.std.proofs.lemmas.List.FromFn.{fill_by_all, length-range_with_len}
use Rattle.std.proofs.lemmas.List.Sums.{length-filter, count_by-le-length}
use Rattle.wfc_lists.proofs.Counts.{count_by-map}
use Rattle.wfc_problem.specs.Network.{row_of, has_flag}
use Rattle.wfc_problem.proofs.CallerLemmas.{flag-set, length-row_of, row_of-set_same, row_of-set_other}
use Rattle.wfc_log.specs.Domains.{Flags, has, size_of, less}
use Rattle.wfc_log.specs.Sized.{AreSizes}

in_row : (row : List Bool) (v : ℕ) → get_or row v false ≡ true → v < length row
in_row row v t = elim (cases_lt v (length row)) [
  | inl l ↦ l
  | inr l ↦ let p = get_or_past row v false l in let e : true ≡ false = sym t ∙ p in cc
]

-- without the flag
pub flag-removed : (n : ℕ) (flags : List Bool) (c v c' v' : ℕ) → v < n → has_flag n flags c v ≡ true → has_flag n (set flags (c * n + v) false) c' v' ≡ less (has_flag n flags) c v c' v'
flag-removed n flags c v c' v' hv t = flag-set n flags c v false c' v' hv (in_row _ v t) ∙ cond_less ((c' == c) && (v' == v)) (has_flag n flags c' v')
  where
    cond_less : (b x : Bool) → cond b false x ≡ (x && not b)
    cond_less b x = grind arith

-- and with it
pub flag-restored : (n : ℕ) (flags : List Bool) (c v c' v' : ℕ) → v < n → v < length (row_of n flags c) → has_flag n flags c v ≡ false → has_flag n flags c' v' ≡ less (has_flag n (set flags (c * n + v) true)) c v c' v'
flag-restored n flags c v c' v' hv hr f = elim (cases_Bool ((c' == c) && (v' == v))) [
  | inl t ↦
      let both = and_parts _ _ t in
      ap (λ x. has_flag n flags x v') (eqb-true c' c both.0) ∙ ap (has_flag n flags c) (eqb-true v' v both.1) ∙ f
      ∙ sym (off (has_flag n (set flags (c * n + v) true) c' v') _ t)
  | inr t ↦ sym (on (has_flag n (set flags (c * n + v) true) c' v') _ t ∙ flag-set n flags c v true c' v' hv hr ∙ cond-false _ _ _ t)
]
  where
    off : (x b : Bool) → b ≡ true → (x && not b) ≡ false
    off x b e = grind arith

    on : (x b : Bool) → b ≡ false → (x && not b) ≡ x
    on x b e = grind arith

pub same_place : (c v : ℕ) → ((c == c) && (v == v)) ≡ true
same_place c v = and_from _ _ (eq-eqb c c refl) (eq-eqb v v refl)

-- ---- sizes

-- a size is kept right where one flag of its row is written
pub sizes-set : (n : ℕ) (flags : List Bool) (sizes : List ℕ) (c v : ℕ) (b : Bool) (s : ℕ) → AreSizes n flags sizes → c < length sizes → v < n
    → s + cond (has_flag n flags c v) 1 0 ≡ slice_index sizes c + cond b 1 0 → AreSizes n (set flags (c * n + v) b) (set sizes c s)
sizes-set n flags sizes c v b s h hc hv e = record {
  rows = omega (arith, h.rows, length-set flags (c * n + v) b, ap (λ k. k * n) (length-set sizes c s));
  small = h.small;
  few = omega (arith, h.few, length-set flags (c * n + v) b);
  few_rows = omega (arith, h.few_rows, length-set sizes c s);
  each = λ c' l.
      let l' : c' < length sizes = omega (arith, length-set sizes c s) in
      let was = h.each c' l' in
      let row = row_of n flags c in
      elim (cases_eq c' c) [
        | inl f ↦
            let e1 : slice_index (set sizes c s) c' ≡ s = ap (slice_index (set sizes c s)) f ∙ get_or-set_same sizes c s 0 hc in
            let hr : v < length row = omega (arith, length-row_of n flags c (length sizes) h.rows hc) in
            let e2 : count_by (λ x. x) (row_of n (set flags (c * n + v) b) c') ≡ count_by (λ x. x) (set row v b) = ap (λ k. count_by (λ x. x) (row_of n (set flags (c * n + v) b) k)) f ∙ ap (count_by (λ x. x)) (row_of-set_same n flags c v b) in
            let e3 = sum_by-set (λ (x : Bool). cond x 1 0) row v b false hr in
            let e4 : slice_index sizes c ≡ count_by (λ x. x) row = h.each c hc in
            omega arith
        | inr ne ↦ get_or-set_other sizes c c' s 0 ne ∙ was ∙ sym (ap (count_by (λ x. x)) (row_of-set_other n flags c v c' b hv ne))
      ];
}

-- one flag fewer, and one more
pub sizes-removed : (n : ℕ) (flags : List Bool) (sizes : List ℕ) (c v s : ℕ) → AreSizes n flags sizes → c < length sizes → v < n → has_flag n flags c v ≡ true → s ≡ slice_index sizes c → AreSizes n (set flags (c * n + v) false) (set sizes c (s - 1))
sizes-removed n flags sizes c v s h hc hv t e =
    let one : cond {A = ℕ} (has_flag n flags c v) 1 0 ≡ 1 = ap (λ b. cond {A = ℕ} b 1 0) t in
    let row = row_of n flags c in
    let pos = get_or-le-sum_by (λ (x : Bool). cond x 1 0) row v false (in_row row v t) in
    let size = h.each c hc in
    sizes-set n flags sizes c v false (s - 1) h hc hv (omega arith)

pub sizes-restored : (n : ℕ) (flags : List Bool) (sizes : List ℕ) (c v s : ℕ) → AreSizes n flags sizes → c < length sizes → v < n → has_flag n flags c v ≡ false → s ≡ slice_index sizes c → AreSizes n (set flags (c * n + v) true) (set sizes c (s + 1))
sizes-restored n flags sizes c v s h hc hv f e =
    let none : cond {A = ℕ} (has_flag n flags c v) 1 0 ≡ 0 = ap (λ b. cond {A = ℕ} b 1 0) f in
    sizes-set n flags sizes c v true (s + 1) h hc hv (omega arith)

-- ---- sizes by the values

-- the numbers below the length name all the flags
row-count : (n : ℕ) (row : List Bool) → length row ≡ n → count_by (λ v. get_or row v false) (range_with_len 0 n) ≡ count_by (λ b. b) row
row-count n row e =
    sym (count_by-map (λ b. b) (λ v. get_or row v false) (range_with_len 0 n))
    ∙ sym (ap (count_by (λ b. b)) (fill_by_all (λ v. get_or row v false) row n false e (λ k l. refl)))

-- a kept size is the size
pub size-is : (n : ℕ) (flags : List Bool) (sizes : List ℕ) (c s : ℕ) → AreSizes n flags sizes → c < length sizes → s ≡ slice_index sizes c
    → s ≡ length (filter (has_flag n flags c) (range_with_len 0 n))
size-is n flags sizes c s h hc e =
    e ∙ h.each c hc ∙ sym (row-count n (row_of n flags c) (length-row_of n flags c (length sizes) h.rows hc))
    ∙ sym (length-filter (has_flag n flags c) (range_with_len 0 n))

-- no more values stand than there are
pub size-few : (D : Flags) (c : ℕ) → size_of D c ≤ D.values
size-few D c = omega (arith, length-filter (has D c) (range_with_len 0 D.values), count_by-le-length (has D c) (range_with_len 0 D.values), length-range_with_len 0 D.values)
