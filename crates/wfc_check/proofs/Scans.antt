-- Scans of the values from the least on.
use Rattle.std.proofs.Common.{◌≡◌, ℕ, suc, ◌+◌, ◌-◌, ◌<◌, ◌≤◌, Bool, true, false, cond, List, [], ◌∷◌, length, get_or, ◌∙◌, ap, arith, Some}
use Rattle.std.specs.Prelude.{not, ◌&&◌, ◌||◌}
use Rattle.std.specs.List.{find, list_all, range_with_len}
use Rattle.wfc_problem.specs.Network.{Network, IsProblem, values, supports_of}
use Rattle.wfc_problem.proofs.CallerLemmas.{support_in}

-- the first of the values that are left, and the others
pub range_next : (v n : ℕ) → v < n → range_with_len v (n - v) ≡ v ∷ range_with_len (v + 1) (n - (v + 1))
range_next v n l = let e : n - v ≡ suc (n - (v + 1)) = omega arith in ap (range_with_len v) e

-- none are left
pub range_over : (v n : ℕ) → n ≤ v → range_with_len v (n - v) ≡ []
range_over v n l = let e : n - v ≡ 0 = omega arith in ap (range_with_len v) e

-- one that passes decides nothing
pub all_next : (p : ℕ → Bool) (v n : ℕ) → v < n → p v ≡ true → list_all p (range_with_len v (n - v)) ≡ list_all p (range_with_len (v + 1) (n - (v + 1)))
all_next p v n l t = ap (list_all p) (range_next v n l) ∙ ap (λ b. b && list_all p (range_with_len (v + 1) (n - (v + 1)))) t

-- one that doesn't decides
pub all_fails : (p : ℕ → Bool) (v n : ℕ) → v < n → p v ≡ false → list_all p (range_with_len v (n - v)) ≡ false
all_fails p v n l t = ap (list_all p) (range_next v n l) ∙ ap (λ b. b && list_all p (range_with_len (v + 1) (n - (v + 1)))) t

pub all_over : (p : ℕ → Bool) (v n : ℕ) → n ≤ v → list_all p (range_with_len v (n - v)) ≡ true
all_over p v n l = ap (list_all p) (range_over v n l)

-- one that isn't looked for
pub find_next : (p : ℕ → Bool) (v n : ℕ) → v < n → p v ≡ false → find p (range_with_len v (n - v)) ≡ find p (range_with_len (v + 1) (n - (v + 1)))
find_next p v n l t = ap (find p) (range_next v n l) ∙ ap (λ b. cond b (Some v) (find p (range_with_len (v + 1) (n - (v + 1))))) t

-- what is not another value that stands
pub no_other : (a b c : Bool) → c ≡ (not a && b) → c ≡ false → (a || not b) ≡ true
no_other a b c e f = grind (arith, e, f)

pub some_other : (a b c : Bool) → c ≡ (not a && b) → c ≡ true → (a || not b) ≡ false
some_other a b c e f = grind (arith, e, f)

-- each support is a value
pub supports_below : (P : Network) → IsProblem P → (v d : ℕ) (xs : List ℕ) → xs ≡ supports_of P v d → (k e : ℕ) → k < length xs → get_or xs k e < values P
supports_below P p v d xs is k e l = support_in P p.indexed v d xs is k e l
