-- Tables of flags, one row of n for each cell.
use Rattle.std.proofs.Common.{◌≡◌, ℕ, zero, suc, ◌+◌, ◌*◌, ◌/◌, ◌%◌, ◌<◌, ◌≤◌, Bool, false, cond, List, [], ◌∷◌, ◌++◌, length, get_or, take, drop, refl, sym, ◌∙◌, ap, arith, inl, inr}
use Rattle.std.specs.Prelude.{count_by}
use Rattle.std.specs.List.{range_with_len, sum_by}
use Rattle.std.proofs.lemmas.Bool.{cases_lt, cases_Bool, false≢true, false_from_ne_true}
use Rattle.std.proofs.lemmas.List.{get_or_append_left, get_or_push, length-take, drop-drop}
use Rattle.std.proofs.Common.{length-append, length-drop}
use Rattle.std.proofs.Math.Nat.{mul_comm}
use Rattle.std.proofs.Math.Seq.{take-add, take-length}
use Rattle.std.proofs.lemmas.List.FromFn.{fill_by_all}
use Rattle.std.proofs.lemmas.List.Sums.{sum_by-cons, sum_by-append}
use Rattle.std.proofs.lemmas.Nat.{same_from_place, mul-add-lt}
use Rattle.wfc_problem.specs.Domains.{Test}
use Rattle.wfc_problem.specs.Network.{Network, values, has_flag, row_of, IsProblem}
use Rattle.wfc_problem.specs.Rounds.{depth_of}
use Rattle.wfc_lists.proofs.Counts.{count_by-map}
use Rattle.wfc_lists.proofs.Tables.{row_below}
use Rattle.wfc_problem.proofs.Rounds.{InRange}
use Rattle.wfc_problem.proofs.Tables.{flag_at, flag_inside}

-- the table has D's answers as far as it goes
pub record Tells (n : ℕ) (D : Test) (flags : List Bool) : Type 0 where
  pub each : (c v : ℕ) → v < n → c * n + v < length flags → get_or flags (c * n + v) false ≡ D c v

-- a table with a flag for each pair stands at pairs alone
pub flags_inside : (P : Network) (flags : List Bool) → length flags ≡ P.cells * values P → InRange P (has_flag (values P) flags)
flags_inside P flags long c v t =
    let at = flag_inside (values P) flags c v t in
    (row_below c v (values P) P.cells (omega arith), at.0)

-- a table of flags that tell D at each pair is D, where D stands at pairs alone
pub flags_are : (P : Network) (D : Test) (flags : List Bool) → length flags ≡ P.cells * values P → InRange P D → Tells (values P) D flags → has_flag (values P) flags ≡ D
flags_are P D flags long inside tells = λ i c v. each c v i
  where
    each : (c v : ℕ) → has_flag (values P) flags c v ≡ D c v
    each c v = elim (cases_Bool (D c v)) [
      | inl t ↦
          let at = inside c v t in
          flag_at (values P) flags c v at.1 ∙ tells.each c v at.1 (omega (arith, mul-add-lt c (values P) v P.cells at.0 at.1, mul_comm (values P) P.cells))
      | inr f ↦
          false_from_ne_true (has_flag (values P) flags c v) (λ t.
          let at = flag_inside (values P) flags c v t in
          false≢true (sym f ∙ sym (tells.each c v at.0 at.1) ∙ sym (flag_at (values P) flags c v at.0) ∙ t))
          ∙ sym f
    ]

-- ---- how many flags are set

-- the numbers below the length name all the elements
row_count : (n : ℕ) (xs : List Bool) → length xs ≡ n → count_by (λ v. get_or xs v false) (range_with_len 0 n) ≡ count_by (λ b. b) xs
row_count n xs e =
    sym (count_by-map (λ b. b) (λ v. get_or xs v false) (range_with_len 0 n))
    ∙ sym (ap (count_by (λ b. b)) (fill_by_all (λ v. get_or xs v false) xs n false e (λ k l. refl)))

-- a table's flags are those of its rows
rows_count : (n : ℕ) (flags : List Bool) (k a : ℕ) → (a + k) * n ≤ length flags
    → sum_by (λ c. count_by (has_flag n flags c) (range_with_len 0 n)) (range_with_len a k) ≡ count_by (λ b. b) (take (k * n) (drop (a * n) flags))
rows_count n flags zero a l = let e : 0 * n ≡ 0 = omega arith in rw e refl
rows_count n flags (suc k) a l =
    let ys = drop (a * n) flags in
    let long : length (row_of n flags a) ≡ n = omega (arith, length-take n ys, length-drop (a * n) flags) in
    let row = row_count n (row_of n flags a) long in
    let rest = rows_count n flags k (a + 1) (omega arith) in
    let e : suc k * n ≡ n + k * n = omega arith in
    let split : take (suc k * n) ys ≡ take n ys ++ take (k * n) (drop n ys) = rw e (take-add n (k * n) ys) in
    let f : (a + 1) * n ≡ a * n + n = omega arith in
    let next : drop ((a + 1) * n) flags ≡ drop n ys = rw f (sym (drop-drop n (a * n) flags)) in
    let same = ap (λ zs. count_by (λ b. b) (take (k * n) zs)) next in
    let both = sum_by-append (λ b. cond b 1 0) (take n ys) (take (k * n) (drop n ys)) in
    let whole = ap (count_by (λ b. b)) split in
    let head = sum_by-cons (λ c. count_by (has_flag n flags c) (range_with_len 0 n)) a (range_with_len (a + 1) k) in
    omega arith

-- so the depth is the number of flags of the base
pub depth_flags : (P : Network) → IsProblem P → depth_of P ≡ count_by (λ b. b) P.base
depth_flags P p =
    let n = values P in
    let counted = rows_count n P.base P.cells 0 (omega (arith, p.sized.base_table)) in
    let e : 0 * n ≡ 0 = omega arith in
    let f : P.cells * n ≡ length P.base = sym p.sized.base_table in
    counted ∙ rw (e, f, take-length P.base) refl

-- ---- one flag more

pub tells_none : (n : ℕ) (D : Test) → Tells n D []
tells_none n D = record { each = λ c v l m. absurd (omega arith) }

-- with the flag of the next place the table goes on telling D
pub tells_push : (n : ℕ) (D : Test) (flags : List Bool) (place : ℕ) (b : Bool) → 0 < n → length flags ≡ place → Tells n D flags → b ≡ D (place / n) (place % n)
    → Tells n D (flags ++ b ∷ [])
tells_push n D flags place b some long tells is = record {
  each = λ c v hv l.
      elim (cases_lt (c * n + v) place) [
        | inl m ↦ get_or_append_left flags (b ∷ []) false (c * n + v) (omega arith) ∙ tells.each c v hv (omega arith)
        | inr ge ↦
            let at : c * n + v ≡ place = omega (arith, length-append flags (b ∷ [])) in
            let whole : (place / n) * n + place % n ≡ place = omega (arith, mul_comm (place / n) n) in
            let hm : place % n < n = omega arith in
            let same = same_from_place c v (place / n) (place % n) n hv hm (at ∙ sym whole) in
            get_or_push flags b false (c * n + v) (omega arith) ∙ is ∙ sym (ap (λ x. D x v) same.0 ∙ ap (D (place / n)) same.1)
      ];
}
