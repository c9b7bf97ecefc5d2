-- One flag of a table is written.
use Rattle.std.proofs.Common.{◌≡◌, ℕ, ◌+◌, ◌-◌, ◌*◌, ◌<◌, Bool, true, false, cond, List, length, set, refl, sym, ◌∙◌, ap, arith}
use Rattle.std.specs.Prelude.{not, ◌&&◌, ◌==◌}
use Rattle.std.proofs.lemmas.Bool.{and_parts, eqb-true}
use Rattle.wfc_problem.specs.Domains.{Test, with_literal}
use Rattle.wfc_problem.specs.Network.{row_of, has_flag}
use Rattle.wfc_problem.proofs.CallerLemmas.{flag-set, length-row_of}
use Rattle.wfc_problem.specs.declared.Literal.TheVariants.{Not}

-- a value has its flag in the row of its cell
in_row : (n : ℕ) (flags : List Bool) (c v rows : ℕ) → length flags ≡ rows * n → c < rows → v < n → v < length (row_of n flags c)
in_row n flags c v rows whole hc hv = omega (arith, length-row_of n flags c rows whole hc)

-- a value is taken away
pub flag_removed : (n : ℕ) (flags : List Bool) (D : Test) (c v rows : ℕ) → length flags ≡ rows * n → c < rows → v < n
    → ((x w : ℕ) → has_flag n flags x w ≡ D x w) → (c' v' : ℕ) → has_flag n (set flags (c * n + v) false) c' v' ≡ with_literal D (Not v c) c' v'
flag_removed n flags D c v rows whole hc hv each c' v' =
    flag-set n flags c v false c' v' hv (in_row n flags c v rows whole hc hv) ∙ ap (λ x. cond ((c' == c) && (v' == v)) false x) (each c' v') ∙ off ((c' == c) && (v' == v)) (D c' v')
  where
    off : (b x : Bool) → cond b false x ≡ (x && not b)
    off b x = grind arith

-- and comes back
pub flag_restored : (n : ℕ) (flags : List Bool) (D : Test) (c v rows : ℕ) → length flags ≡ rows * n → c < rows → v < n → D c v ≡ true
    → ((x w : ℕ) → has_flag n flags x w ≡ with_literal D (Not v c) x w) → (c' v' : ℕ) → has_flag n (set flags (c * n + v) true) c' v' ≡ D c' v'
flag_restored n flags D c v rows whole hc hv t each c' v' =
    flag-set n flags c v true c' v' hv (in_row n flags c v rows whole hc hv) ∙ ap (λ x. cond ((c' == c) && (v' == v)) true x) (each c' v')
    ∙ on ((c' == c) && (v' == v)) (D c' v') (λ both.
    let parts = and_parts _ _ both in
    ap (λ x. D x v') (eqb-true c' c parts.0) ∙ ap (D c) (eqb-true v' v parts.1) ∙ t)
  where
    on : (b x : Bool) → (b ≡ true → x ≡ true) → cond b true (x && not b) ≡ x
    on true x h = sym (h refl)
    on false x h = grind arith
