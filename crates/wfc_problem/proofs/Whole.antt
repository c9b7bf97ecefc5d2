-- A base of which each flag is set.
use Rattle.std.proofs.Common.{◌≡◌, ℕ, zero, suc, ◌-◌, ◌*◌, ◌<◌, ◌≤◌, Bool, true, false, cond, List, [], ◌∷◌, length, get_or, take, refl, sym, ◌∙◌, ap, arith}
use Rattle.std.specs.Prelude.{count_by, replicate}
use Rattle.std.specs.List.{list_all}
use Rattle.std.proofs.lemmas.Bool.{and_parts, cond-true, cond-false}
use Rattle.std.proofs.Math.Nat.{mul-le-mul_right}
use Rattle.std.proofs.lemmas.List.{length-replicate, get_or-replicate, take-replicate, drop-replicate, ext_get_or}
use Rattle.std.proofs.lemmas.List.Folds.{sum_by-replicate}
use Rattle.wfc_problem.specs.Network.{Network, values, row_of, IsProblem}
use Rattle.wfc_problem.specs.Rounds.{depth_of}
use Rattle.wfc_problem.specs.Whole.{is_whole, network_of, IsKept}
use Rattle.wfc_problem.proofs.Flags.{depth_flags}

-- such a list passes
pub set_pass : (n : ℕ) → list_all (λ flag. flag) (replicate n true) ≡ true
set_pass zero = refl
set_pass (suc n) = set_pass n

-- and what passes is such a list
pub pass_set : (flags : List Bool) → list_all (λ flag. flag) flags ≡ true → flags ≡ replicate (length flags) true
pass_set [] e = refl
pass_set (flag ∷ flags) e =
    let both = and_parts flag (list_all (λ flag. flag) flags) e in
    ap (λ b. b ∷ flags) both.0 ∙ ap (λ bs. true ∷ bs) (pass_set flags both.1)

-- the flags of a whole base, of which there is one for each pair
pub whole_base : (P : Network) → IsProblem P → is_whole P ≡ true → P.base ≡ replicate (P.cells * values P) true
whole_base P p e = pass_set P.base e ∙ ap (λ n. replicate n true) p.sized.base_table

-- a problem of which each flag is set is said by its other parts
pub whole_is : (P : Network) → IsProblem P → is_whole P ≡ true → network_of true P ≡ P
whole_is P p e = sym (ap (λ (flags : List Bool). record P { base = flags }) (whole_base P p e))

-- ---- the parts that a problem is kept in

-- where they lack the flags, they say the problem
pub kept_is : (P Q : Network) → IsProblem P → is_whole P ≡ true → Q ≡ record P { base = [] } → network_of true Q ≡ P
kept_is P Q p e same = ap (network_of true) same ∙ whole_is P p e

pub kept_whole : (P Q : Network) → IsProblem P → is_whole P ≡ true → Q ≡ record P { base = [] } → IsKept true Q
kept_whole P Q p e same = record {
  problem = rw (kept_is P Q p e same) p;
  told = set_pass (Q.cells * values Q);
}

-- where they don't, they are the problem
pub base_kept : (whole : Bool) (P N : Network) → network_of whole P ≡ N → whole ≡ false → P.base ≡ N.base
base_kept whole P N e f = sym (cond-false whole (replicate (P.cells * values P) true) P.base f) ∙ ap (λ (M : Network). M.base) e

-- where they do, each pair is one of the base
pub depth_kept : (whole : Bool) (P N : Network) → network_of whole P ≡ N → whole ≡ true → IsProblem N → depth_of N ≡ N.cells * values N
depth_kept whole P N e t p =
    let n = P.cells * values P in
    let all : N.base ≡ replicate n true = sym (ap (λ (M : Network). M.base) e) ∙ cond-true whole (replicate n true) P.base t in
    let long : length N.base ≡ n = ap length all ∙ length-replicate n true in
    let counted : count_by (λ b. b) (replicate n true) ≡ n * 1 = sum_by-replicate (λ b. cond b 1 0) n true in
    let table = p.sized.base_table in
    depth_flags N p ∙ ap (count_by (λ b. b)) all ∙ counted ∙ (omega arith)

-- ---- for callers

-- flags that are all set are a whole base
pub all_base : (P : Network) → IsProblem P → is_whole P ≡ true → (flags : List Bool) → length flags ≡ P.cells * values P
    → ((k : ℕ) → k < length flags → get_or flags k false ≡ true) → flags ≡ P.base
all_base P p e flags long set =
    let n = P.cells * values P in
    ext_get_or false flags (replicate n true) (long ∙ sym (length-replicate n true)) (λ k l. set k l ∙ sym (get_or-replicate n k true false (omega arith)))
    ∙ sym (whole_base P p e)

-- each cell has all values
pub whole_row : (P : Network) → IsProblem P → is_whole P ≡ true → (c : ℕ) → c < P.cells → count_by (λ flag. flag) (row_of (values P) P.base c) ≡ values P
whole_row P p e c l =
    let n = values P in
    let room : suc c * n ≤ P.cells * n = mul-le-mul_right n l in
    let left : row_of n P.base c ≡ replicate n true =
    ap (λ flags. row_of n flags c) (whole_base P p e)
    ∙ ap (take n) (drop-replicate (c * n) (P.cells * n) true)
    ∙ take-replicate n (P.cells * n - c * n) true (omega arith) in
    let counted : count_by (λ flag. flag) (replicate n true) ≡ n * 1 = sum_by-replicate (λ b. cond b 1 0) n true in
    ap (count_by (λ flag. flag)) left ∙ counted ∙ (omega arith)
