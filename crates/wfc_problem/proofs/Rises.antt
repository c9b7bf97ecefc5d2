-- The test that a list rises, and what it says.
use Rattle.std.proofs.Common.{◌≡◌, ℕ, zero, suc, ◌+◌, ◌<◌, ◌≤◌, true, List, [], ◌∷◌, length, get_or, refl, ap, arith}
use Rattle.std.specs.List.Sorted.{IsStrictlyIncreasing}
use Rattle.std.proofs.lemmas.Bool.{and_parts, and_from, ltb-true, lt-ltb, leb-true, le-leb}
use Rattle.wfc_lists.proofs.Rising.{tail_rises}
use Rattle.wfc_problem.specs.Fault.{rises}

-- a list that rises from low on and below n
pub record Rises (low n : ℕ) (xs : List ℕ) : Type 0 where
  pub strictly : IsStrictlyIncreasing xs
  pub below : (k : ℕ) → k < length xs → get_or xs k 0 < n
  pub from : 0 < length xs → low ≤ get_or xs 0 0

-- a list that passes the test rises so
pub Rises_from : (low n : ℕ) (xs : List ℕ) → rises low n xs ≡ true → Rises low n xs
Rises_from low n [] t = record { strictly = λ k l. absurd (omega arith); below = λ k l. absurd (omega arith); from = λ l. absurd (omega arith) }
Rises_from low n (x ∷ xs) t =
    let parts = and_parts _ _ t in
    let firsts = and_parts _ _ parts.0 in
    let ge = leb-true low x firsts.0 in
    let lt = ltb-true x n firsts.1 in
    let rest = Rises_from (x + 1) n xs parts.1 in
    record {
      strictly = λ k l.
          let P : ℕ → Type 0 = λ j. j + 1 < length (x ∷ xs) → get_or (x ∷ xs) j 0 < get_or (x ∷ xs) (j + 1) 0 in
          elim k as P [
            | zero ↦ λ m. let next = rest.from (omega arith) in let e : 0 + 1 ≡ suc 0 = omega arith in let same = ap (λ i. get_or (x ∷ xs) i 0) e in omega arith
            | suc j ↦ λ m. let next = rest.strictly j (omega arith) in let e : suc j + 1 ≡ suc (j + 1) = omega arith in let same = ap (λ i. get_or (x ∷ xs) i 0) e in omega arith
          ] l;
      below = λ k l.
          let P : ℕ → Type 0 = λ j. j < length (x ∷ xs) → get_or (x ∷ xs) j 0 < n in
          elim k as P [ zero ↦ λ m. lt | suc j ↦ λ m. rest.below j (omega arith) ] l;
      from = λ l. ge;
    }

-- and the other way
pub rises_true : (low n : ℕ) (xs : List ℕ) → Rises low n xs → rises low n xs ≡ true
rises_true low n [] r = refl
rises_true low n (x ∷ xs) r =
    let ge = r.from (omega arith) in
    let lt = r.below 0 (omega arith) in
    let rest = rises_true (x + 1) n xs (record {
      strictly = tail_rises x xs r.strictly;
      below = λ k l. r.below (suc k) (omega arith);
      from = λ l. let step = r.strictly 0 (omega arith) in let e : 0 + 1 ≡ suc 0 = omega arith in let same = ap (λ i. get_or (x ∷ xs) i 0) e in omega arith;
    }) in
    and_from _ _ (and_from _ _ (le-leb low x ge) (lt-ltb x n lt)) rest
