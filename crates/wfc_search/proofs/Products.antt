-- Products of sizes, and how a choice splits them.
use Rattle.std.proofs.Common.{◌≡◌, ℕ, ◌+◌, ◌-◌, ◌*◌, ◌<◌, ◌≤◌, false, List, [], ◌∷◌, map, sym, subst, arith, inl, inr}
use Rattle.std.specs.Prelude.{Contains}
use Rattle.std.specs.List.{range_with_len}
use Rattle.std.proofs.lemmas.Nat.{mul-le}
use Rattle.std.proofs.Math.Nat.{mul-le-mul_left}
use Rattle.wfc_lists.proofs.Lists.{Contains_cases, Contains_later, Contains_first}
use Rattle.wfc_lists.proofs.Ranges.{range_Contains, Contains_range}
use Rattle.wfc_problem.specs.Domains.{Test, Within}
use Rattle.wfc_problem.specs.Network.{Network}
use Rattle.wfc_problem.specs.Sizes.{size_at, is_dead}
use Rattle.wfc_problem.proofs.CallerLemmas.{size_at_le, alive_pos}
use Rattle.wfc_search.specs.Volume.{product, ways, at_least_one}

-- ---- products

-- factors that are no larger have no larger product
pub product_le : (f d : ℕ → ℕ) (xs : List ℕ) → ((x : ℕ) → f x ≤ d x) → product (map f xs) ≤ product (map d xs)
product_le f d [] le = omega arith
product_le f d (x ∷ xs) le = mul-le (f x) (product (map f xs)) (d x) (product (map d xs)) (le x) (product_le f d xs le)

-- factors above 0 have a product above 0
pub product_pos : (d : ℕ → ℕ) (xs : List ℕ) → ((x : ℕ) → Contains xs x → 0 < d x) → 0 < product (map d xs)
product_pos d [] some = omega arith
product_pos d (x ∷ xs) some =
    let here = some x (Contains_first x xs) in
    let rest = product_pos d xs (λ y c. some y (Contains_later x xs y c)) in
    let both = mul-le 1 1 (d x) (product (map d xs)) (omega arith) (omega arith) in
    omega arith

-- the split where the cell is the first
split_here : (f g h x y r : ℕ) → f ≤ 1 → g ≤ h → 0 < h → x ≤ r → y ≤ r → 0 < r → at_least_one (f * x) + at_least_one (g * y) ≤ (h + 1) * r
split_here f g h x y r hf hg hh hx hy hr =
    let a = mul-le f x 1 r hf hx in
    let b = mul-le g y h r hg hy in
    let c = mul-le 1 1 h r (omega arith) (omega arith) in
    let e : (h + 1) * r ≡ h * r + r = omega arith in
    omega arith

-- the split where it stands behind
split_later : (f g d x y z p q : ℕ) → f ≤ d → g ≤ d → 0 < d → x ≤ p → 0 < p → y ≤ q → 0 < q → p + q ≤ z → at_least_one (f * x) + at_least_one (g * y) ≤ d * z
split_later f g d x y z p q hf hg hd hx hp hy hq hz =
    let a = mul-le f x d p hf hx in
    let b = mul-le g y d q hg hy in
    let s = mul-le 1 1 d p (omega arith) (omega arith) in
    let t = mul-le 1 1 d q (omega arith) (omega arith) in
    let u = mul-le-mul_left d hz in
    let e : d * (p + q) ≡ d * p + d * q = omega arith in
    omega arith

-- where f keeps at most one at c, and g one less than all, both together have no more ways than d
pub product_split : (f g d : ℕ → ℕ) (c : ℕ) (xs : List ℕ) → ((x : ℕ) → f x ≤ d x) → ((x : ℕ) → g x ≤ d x) → ((x : ℕ) → Contains xs x → 0 < d x)
    → Contains xs c → f c ≤ 1 → g c + 1 ≤ d c → 2 ≤ d c
    → at_least_one (product (map f xs)) + at_least_one (product (map g xs)) ≤ product (map d xs)
product_split f g d c [] hf hg some has one less two = absurd (omega (arith, has.1))
product_split f g d c (x ∷ xs) hf hg some has one less two =
    let more : (y : ℕ) → Contains xs y → 0 < d y = λ y k. some y (Contains_later x xs y k) in
    elim (Contains_cases x xs c has) [
      | inl e ↦
          let at_f : f x ≤ 1 = subst (λ (y : ℕ). f y ≤ 1) (sym e) one in
          let at_g : g x + 1 ≤ d x = subst (λ (y : ℕ). g y + 1 ≤ d y) (sym e) less in
          let at_d : 2 ≤ d x = subst (λ (y : ℕ). 2 ≤ d y) (sym e) two in
          let all = split_here (f x) (g x) (d x - 1) (product (map f xs)) (product (map g xs)) (product (map d xs)) at_f (omega arith) (omega arith)
          (product_le f d xs hf) (product_le g d xs hg) (product_pos d xs more) in
          let same : d x - 1 + 1 ≡ d x = omega arith in
          rw same at all
      | inr r ↦
          split_later (f x) (g x) (d x) (product (map f xs)) (product (map g xs)) (product (map d xs)) (at_least_one (product (map f xs))) (at_least_one (product (map g xs)))
          (hf x) (hg x) (some x (Contains_first x xs)) (omega arith) (omega arith) (omega arith) (omega arith)
          (product_split f g d c xs hf hg more r one less two)
    ]

-- both sides of a choice together have no more ways
pub ways_split : (P : Network) (E F D : Test) (c : ℕ) → Within E D → Within F D → is_dead P D ≡ false → c < P.cells
    → size_at P E c ≤ 1 → size_at P F c + 1 ≤ size_at P D c → 2 ≤ size_at P D c → at_least_one (ways P E) + at_least_one (ways P F) ≤ ways P D
ways_split P E F D c we wf alive l one less two =
    product_split (size_at P E) (size_at P F) (size_at P D) c (range_with_len 0 P.cells) (size_at_le P E D we) (size_at_le P F D wf)
    (λ x has. alive_pos P D alive x (Contains_range P.cells x has)) (range_Contains P.cells c l) one less two
