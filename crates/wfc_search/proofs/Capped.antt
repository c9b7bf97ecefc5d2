-- A product that is kept below a limit, one factor after another.
use Rattle.std.proofs.Common.{◌≡◌, ℕ, zero, suc, ◌+◌, ◌*◌, ◌^◌, ◌<◌, ◌≤◌, List, [], ◌∷◌, ◌++◌, length, map, sym, ◌∙◌, ap, arith, inl, inr}
use Rattle.std.specs.Prelude.{min, filter}
use Rattle.std.specs.List.{range_with_len}
use Rattle.std.proofs.lemmas.Bool.{cases_lt}
use Rattle.std.proofs.lemmas.List.FromFn.{map-range_with_len_more}
use Rattle.std.proofs.lemmas.Nat.{mul-le}
use Rattle.std.proofs.Math.Nat.{mul_assoc}
use Rattle.wfc_log.specs.Domains.{Flags, has, size_of, Fits}
use Rattle.wfc_problem.specs.Network.{Network}
use Rattle.wfc_problem.specs.Sizes.{size_at}
use Rattle.wfc_search.specs.Volume.{product}

-- one factor more
product_more : (xs : List ℕ) (x : ℕ) → product (xs ++ x ∷ []) ≡ product xs * x
product_more [] x = omega arith
product_more (y ∷ ys) x = ap (λ (n : ℕ). y * n) (product_more ys x) ∙ sym (mul_assoc y (product ys) x)

-- one cell more
pub sizes_product_more : (f : ℕ → ℕ) (n : ℕ) → product (map f (range_with_len 0 (n + 1))) ≡ product (map f (range_with_len 0 n)) * f n
sizes_product_more f n =
    ap product (map-range_with_len_more f 0 n n (omega arith)) ∙ product_more (map f (range_with_len 0 n)) (f n)

-- a product that was cut to the limit is cut to the limit
pub cut_product : (p x limit : ℕ) → min (min p limit * x) limit ≡ min (p * x) limit
cut_product p zero limit =
    let a : min p limit * 0 ≡ 0 = omega arith in
    let b : p * 0 ≡ 0 = omega arith in
    ap (λ (n : ℕ). min n limit) (a ∙ sym b)
cut_product p (suc x) limit = elim (cases_lt limit p) [
  | inl more ↦
      let one : min p limit ≡ limit = omega arith in
      let a = mul-le limit 1 limit (suc x) (omega arith) (omega arith) in
      let b = mul-le limit 1 p (suc x) (omega arith) (omega arith) in
      let c : limit * 1 ≡ limit = omega arith in
      let left : min (limit * suc x) limit ≡ limit = omega arith in
      let right : min (p * suc x) limit ≡ limit = omega arith in
      ap (λ (n : ℕ). min (n * suc x) limit) one ∙ left ∙ sym right
  | inr few ↦
      let one : min p limit ≡ p = omega arith in
      ap (λ (n : ℕ). min (n * suc x) limit) one
]

-- a product of two small numbers is small
pub small_product : (p x : ℕ) → p ≤ 1000000001 → x ≤ 4096 → p * x < 2 ^ 64
small_product p x few small = omega (arith, mul-le p x 1000000001 4096 few small)

-- the size of a cell as the domains tell it
pub size_is : (P : Network) (D : Flags) (c : ℕ) → Fits P D → size_of D c ≡ size_at P (has D) c
size_is P D c fits = ap (λ (n : ℕ). length (filter (has D c) (range_with_len 0 n))) fits.same_values
