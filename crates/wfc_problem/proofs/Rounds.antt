-- As many rounds as there are pairs give the union of all consistent domains.
use Rattle.std.proofs.Common.{◌≡◌, ℕ, zero, suc, ◌+◌, ◌<◌, ◌≤◌, Bool, true, List, [], ◌∷◌, length, get_or, refl, sym, ◌∙◌, ap, arith, Option, Some, None, inl, inr, ◌⊎◌}
use Rattle.std.specs.Prelude.{count_by, IsTrue}
use Rattle.std.specs.List.{range_with_len, sum_by}
use Rattle.std.proofs.lemmas.Bool.{cases_lt, and_parts, and_from}
use Rattle.std.proofs.lemmas.List.Sums.{sum_by-cons, sum_by-le-sum_by, AllPass-from_list_all, list_all-from_AllPass}
use Rattle.std.proofs.lemmas.List.FromFn.{get_or-range_with_len, length-range_with_len}
use Rattle.wfc_problem.specs.Network.{Network, values, neighbour, supports_of, in_base, IsProblem}
use Rattle.wfc_problem.specs.Domains.{Test, Within, IsArcConsistent, IsGreatest, base_with}
use Rattle.wfc_problem.specs.Rounds.{side_holds, round, rounds, pairs, depth_of, greatest}
use Rattle.wfc_problem.specs.declared.Literal.{Literal}
use Rattle.wfc_lists.specs.Counts.{one_if}
use Rattle.wfc_lists.proofs.Counts.{count_by-le}
use Rattle.wfc_lists.proofs.Lists.{any_Contains, Contains_any}
use Rattle.wfc_problem.proofs.Tables.{neighbour_dir, base_inside}

-- a round keeps each consistent part
pub round_contains : (P : Network) (E F : Test) → IsArcConsistent P E → Within E F → Within E (round P F)
round_contains P E F consistent within c v t =
    and_from _ _ (within c v t) (list_all-from_AllPass (λ d. side_holds P F v d (neighbour P c d)) (range_with_len 0 P.dirs) (λ k e l. side (get_or (range_with_len 0 P.dirs) k e)))
  where
    side : (d : ℕ) → side_holds P F v d (neighbour P c d) ≡ true
    side d =
        let Q : Option ℕ → Type 0 = λ o. neighbour P c d ≡ o → side_holds P F v d o ≡ true in
        elim (neighbour P c d) as Q [
          | None ↦ λ e. refl
          | Some n ↦ λ e.
              let s = consistent c v d t n e in
              Contains_any (F n) (supports_of P v d) s.0 s.1 (within n s.0 s.2)
        ] refl

-- what a round leaves unchanged is consistent
pub fixed_consistent : (P : Network) (E : Test) → Within E (round P E) → IsArcConsistent P E
fixed_consistent P E fixed c v d t n e =
    let hd = neighbour_dir P c d n e in
    let hl : d < length (range_with_len 0 P.dirs) = omega (arith, length-range_with_len 0 P.dirs) in
    let z : 0 + d ≡ d = omega arith in
    let at : get_or (range_with_len 0 P.dirs) d d ≡ d = get_or-range_with_len 0 P.dirs d d hd ∙ z in
    let all = AllPass-from_list_all (λ x. side_holds P E v x (neighbour P c x)) (range_with_len 0 P.dirs) (and_parts _ _ (fixed c v t)).1 in
    let here : side_holds P E v d (neighbour P c d) ≡ true = sym (ap (λ x. side_holds P E v x (neighbour P c x)) at) ∙ all d d hl in
    let here' : side_holds P E v d (Some n) ≡ true = sym (ap (side_holds P E v d) e) ∙ here in
    any_Contains (E n) (supports_of P v d) here'

round_within : (P : Network) (E : Test) → Within (round P E) E
round_within P E c v t = (and_parts _ _ t).0

-- a round of consistent domains is consistent
round_consistent : (P : Network) (E : Test) → IsArcConsistent P E → IsArcConsistent P (round P E)
round_consistent P E h c v d t n e =
    let s = h c v d (round_within P E c v t) n e in
    (s.0, s.1, round_contains P E E h (λ x y u. u) n s.0 s.2)

-- ---- counting

-- equal sums of terms that are no larger are sums of equal terms
sum_by_same : {X : Type 0} (f g : X → ℕ) (xs : List X) → ((x : X) → f x ≤ g x) → sum_by f xs ≡ sum_by g xs → (k : ℕ) (d : X) → k < length xs → f (get_or xs k d) ≡ g (get_or xs k d)
sum_by_same f g [] h e k d l = absurd (omega arith)
sum_by_same f g (x ∷ xs) h e zero d l =
    let le = h x in let rest = sum_by-le-sum_by f g xs h in
    omega (arith, sum_by-cons f x xs, sum_by-cons g x xs)
sum_by_same f g (x ∷ xs) h e (suc k) d l =
    let le = h x in let rest = sum_by-le-sum_by f g xs h in
    sum_by_same f g xs h (omega (arith, sum_by-cons f x xs, sum_by-cons g x xs)) k d (omega arith)

row_le : (P : Network) (E F : Test) → Within E F → (c : ℕ) → count_by (E c) (range_with_len 0 (values P)) ≤ count_by (F c) (range_with_len 0 (values P))
row_le P E F h c = count_by-le (E c) (F c) (range_with_len 0 (values P)) (h c)

-- less has no more pairs
pub pairs_le : (P : Network) (E F : Test) → Within E F → pairs P E ≤ pairs P F
pairs_le P E F h = sum_by-le-sum_by _ _ (range_with_len 0 P.cells) (row_le P E F h)

one_if_le : (a b : Bool) → (a ≡ true → b ≡ true) → one_if a ≤ one_if b
one_if_le a b h = grind arith

one_if_same : (a b : Bool) → one_if a ≡ one_if b → b ≡ true → a ≡ true
one_if_same a b e t = grind arith

-- as many pairs within are all of them
pairs_same : (P : Network) (E F : Test) → Within E F → pairs P E ≡ pairs P F → (c v : ℕ) → c < P.cells → v < values P → F c v ≡ true → E c v ≡ true
pairs_same P E F h e c v hc hv t =
    let cells = range_with_len 0 P.cells in
    let vals = range_with_len 0 (values P) in
    let row' = sum_by_same (λ x. count_by (E x) vals) (λ x. count_by (F x) vals) cells (row_le P E F h) e c c (omega (arith, length-range_with_len 0 P.cells)) in
    let atc : get_or cells c c ≡ c = get_or-range_with_len 0 P.cells c c hc ∙ (let z : 0 + c ≡ c = omega arith in z) in
    let row : count_by (E c) vals ≡ count_by (F c) vals = sym (ap (λ x. count_by (E x) vals) atc) ∙ row' ∙ ap (λ x. count_by (F x) vals) atc in
    let one' = sum_by_same (λ x. one_if (E c x)) (λ x. one_if (F c x)) vals (λ x. one_if_le (E c x) (F c x) (h c x)) row v v (omega (arith, length-range_with_len 0 (values P))) in
    let atv : get_or vals v v ≡ v = get_or-range_with_len 0 (values P) v v hv ∙ (let z : 0 + v ≡ v = omega arith in z) in
    let one : one_if (E c v) ≡ one_if (F c v) = sym (ap (λ x. one_if (E c x)) atv) ∙ one' ∙ ap (λ x. one_if (F c x)) atv in
    one_if_same (E c v) (F c v) one t

-- ---- the law

-- only pairs of the problem stand
abbrev pub InRange : Network → Test → Type 0
InRange P E = (c v : ℕ) → IsTrue (E c v) → (c < P.cells) × (v < values P)

-- a round leaves no pair that was not there
pub round_inside : (P : Network) (E : Test) → InRange P E → InRange P (round P E)
round_inside P E r c v t = r c v (round_within P E c v t)

rounds_within : (P : Network) (E : Test) (n : ℕ) → Within (rounds P E n) E
rounds_within P E zero c v t = t
rounds_within P E (suc n) c v t = rounds_within P E n c v (round_within P (rounds P E n) c v t)

rounds_contain : (P : Network) (E F : Test) (n : ℕ) → IsArcConsistent P E → Within E F → Within E (rounds P F n)
rounds_contain P E F zero h w = w
rounds_contain P E F (suc n) h w = round_contains P E (rounds P F n) h (rounds_contain P E F n h w)

-- where a round drops nothing, what stands is consistent
no_fewer : (P : Network) (E : Test) → InRange P E → pairs P E ≤ pairs P (round P E) → IsArcConsistent P E
no_fewer P E inr' h =
    let le = pairs_le P (round P E) E (round_within P E) in
    fixed_consistent P E (λ c v t. let r = inr' c v t in pairs_same P (round P E) E (round_within P E) (omega arith) c v r.0 r.1 t)

either : (P : Network) (E : Test) → InRange P E → (n : ℕ) → (pairs P (rounds P E n) + n ≤ pairs P E) ⊎ IsArcConsistent P (rounds P E n)
either P E r zero = inl (omega arith)
either P E r (suc n) = elim (either P E r n) [
  | inr h ↦ inr (round_consistent P (rounds P E n) h)
  | inl l ↦ elim (cases_lt (pairs P (round P (rounds P E n))) (pairs P (rounds P E n))) [
    | inl fewer ↦ inl (omega arith)
    | inr as_many ↦ inr (round_consistent P (rounds P E n) (no_fewer P (rounds P E n) (λ c v t. r c v (rounds_within P E n c v t)) as_many))
  ]
]

-- enough rounds are consistent
pub rounds_consistent : (P : Network) (E : Test) → InRange P E → (n : ℕ) → pairs P E ≤ n → IsArcConsistent P (rounds P E n)
rounds_consistent P E r n enough = elim (either P E r n) [
  | inr h ↦ h
  | inl l ↦ no_fewer P (rounds P E n) (λ c v t. r c v (rounds_within P E n c v t)) (omega arith)
]

-- and are the union of all consistent domains within the cut base
pub rounds_greatest : (P : Network) (literals : List Literal) (n : ℕ) → InRange P (base_with P literals) → pairs P (base_with P literals) ≤ n → IsGreatest P literals (rounds P (base_with P literals) n)
rounds_greatest P literals n r enough c v =
    let B = base_with P literals in (
      (λ t. record { domains = rounds P B n; within = rounds_within P B n; consistent = rounds_consistent P B r n enough; stands = t }),
      (λ g. rounds_contain P g.domains B n g.consistent g.within c v g.stands),
    )

-- ---- of a problem

-- the cut base lies within the base
pub base_with_base : (P : Network) (literals : List Literal) → Within (base_with P literals) (in_base P)
base_with_base P literals c v t = (and_parts _ _ t).0

pub base_with_inside : (P : Network) → IsProblem P → (literals : List Literal) → InRange P (base_with P literals)
base_with_inside P p literals c v t = base_inside P p c v (base_with_base P literals c v t)

-- as many rounds as there are pairs of a cell and a base value, or more, give the union
pub depth_greatest : (P : Network) → IsProblem P → (literals : List Literal) (n : ℕ) → depth_of P ≤ n → IsGreatest P literals (rounds P (base_with P literals) n)
depth_greatest P p literals n enough =
    rounds_greatest P literals n (base_with_inside P p literals)
    (let fewer : pairs P (base_with P literals) ≤ depth_of P = pairs_le P (base_with P literals) (in_base P) (base_with_base P literals) in omega arith)

pub greatest_is : (P : Network) → IsProblem P → (literals : List Literal) → IsGreatest P literals (greatest P literals)
unfolding greatest
greatest_is P p literals = depth_greatest P p literals (depth_of P) (omega arith)
