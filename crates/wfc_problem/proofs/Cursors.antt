-- Places in lists of supports before which all is below a value.
use Rattle.std.proofs.Common.{◌≡◌, ℕ, ◌<◌, ◌≤◌, true, List, length, get_or, replicate, set, sym, ◌∙◌, ap, subst, arith, inl, inr, ◌+◌, Bool, false, refl}
use Rattle.std.specs.Prelude.{◌==◌, ◌↔◌, IsTrue}
use Rattle.std.specs.List.{list_any}
use Rattle.std.specs.List.Sorted.{IsStrictlyIncreasing}
use Rattle.std.specs.Cmp.{both_ways}
use Rattle.std.proofs.lemmas.Bool.{cases_lt, cases_eq, eq-eqb, false≢true, false_from_ne_true}
use Rattle.std.proofs.lemmas.List.{get_or_default, get_or_past, get_or-replicate, get_or-set_other, get_or-set_same, length-replicate, length-set}
use Rattle.std.proofs.lemmas.List.Folds.{list_any_at}
use Rattle.wfc_lists.proofs.Lists.{has_Contains}
use Rattle.wfc_lists.proofs.Rising.{rising_le}
use borrow.Author.Count.{below_more}
use Rattle.std.proofs.lemmas.List.Sums.{list_all-from_AllPass, AllPass-from_list_all}
use Rattle.wfc_model.specs.Direction.{opposite}
use Rattle.wfc_problem.proofs.Supports.{support_in}
use Rattle.wfc_problem.specs.Fault.{is_mutual}
use Rattle.wfc_problem.specs.Symmetry.{AreBefore, ArePassed, IsPassed, HasReached, HaveReached}
use Rattle.wfc_problem.specs.Network.{Network, values, supports_of, ok, IsIndexed}

-- each of so many zeros is 0
zero_at : (n w : ℕ) → get_or (replicate {A = ℕ} n 0) w 0 ≡ 0
zero_at n w = elim (cases_lt w n) [
  | inl l ↦ get_or-replicate {A = ℕ} n w 0 0 l
  | inr ge ↦ get_or_past (replicate {A = ℕ} n 0) w 0 (omega (arith, length-replicate {A = ℕ} n 0))
]

-- at first all places are the beginnings
pub before_start : (P : Network) (d n : ℕ) → values P ≤ n → AreBefore P d 0 (replicate {A = ℕ} n 0)
before_start P d n many = record {
  each_value = omega (arith, length-replicate {A = ℕ} n 0);
  below = λ w k l. absurd (omega (arith, zero_at n w));
}

-- they serve a later value too
pub before_later : (P : Network) (d v u : ℕ) (places : List ℕ) → v ≤ u → AreBefore P d v places → AreBefore P d u places
before_later P d v u places le before = record {
  each_value = before.each_value;
  below = λ w k l. let lt = before.below w k l in omega arith;
}

-- one place further
pub before_set : (P : Network) (d v w at : ℕ) (places : List ℕ) → AreBefore P d v places → w < length places
    → ((k : ℕ) → get_or places w 0 ≤ k → k < at → get_or (supports_of P w d) k 0 < v) → AreBefore P d v (set places w at)
before_set P d v w at places before l further = record {
  each_value = omega (arith, before.each_value, length-set places w at);
  below = λ u k m. elim (cases_eq u w) [
    | inl e ↦ subst (λ x. get_or (supports_of P x d) k 0 < v) (sym e) (here k (omega (arith, ap (λ x. get_or (set places w at) x 0) e, get_or-set_same places w at 0 l)))
    | inr ne ↦ before.below u k (omega (arith, get_or-set_other places w u at 0 ne))
  ];
}
  where
    here : (k : ℕ) → k < at → get_or (supports_of P w d) k 0 < v
    here k m = elim (cases_lt k (get_or places w 0)) [ inl low ↦ before.below w k low | inr ge ↦ further k ge m ]

-- ---- one value's list for direction d, read at the first place from its own on that isn't below v

module _ (P : Network) (i : IsIndexed P) (d v w at : ℕ) (places list : List ℕ) (is : list ≡ supports_of P w d) (before : AreBefore P d v places)
    (below : (k : ℕ) → get_or places w 0 ≤ k → k < at → get_or list k 0 < v) (least : at < length list → v ≤ get_or list at 0) where
  -- that place serves v
  pub before_next : w < length places → AreBefore P d v (set places w at)
  before_next l = before_set P d v w at places before l (λ k ge m. let lt = below k ge m in omega (arith, ap (λ xs. get_or xs k 0) is))

  -- all before it is below
  below_at : (k : ℕ) → k < at → get_or list k 0 < v
  below_at k m = elim (cases_lt k (get_or places w 0)) [
    | inl low ↦ let lt = before.below w k low in omega (arith, ap (λ xs. get_or xs k 0) is)
    | inr ge ↦ below k ge m
  ]

  -- so where the list has v, it stands there
  stands_at : list_any (λ x. x == v) list ≡ true → (at < length list) × (get_or list at 0 ≡ v)
  stands_at has =
      let up : IsStrictlyIncreasing list = subst (λ xs. IsStrictlyIncreasing xs) (sym is) (i.rising w d) in
      let c = has_Contains list v has in
      let e : get_or list c.0 0 ≡ v = get_or_default list c.0 0 v c.1 ∙ c.2 in
      elim (cases_lt c.0 at) [
        | inl l ↦ absurd (let lt = below_at c.0 l in omega arith)
        | inr ge ↦
            let l : at < length list = omega (arith, c.1) in
            let le = least l in
            let up' = rising_le list up at c.0 ge c.1 in
            (l, omega arith)
      ]

  -- and w may have v beside it exactly where it does
  pub ok_at : (b : Bool) → IsTrue b ↔ ((at < length list) × (get_or list at 0 ≡ v)) → b ≡ ok P d w v
  ok_at b test =
      both_ways b (list_any (λ x. x == v) list)
      (λ t. let both = test.0 t in list_any_at (λ x. x == v) list at 0 both.0 (eq-eqb (get_or list at 0) v both.1))
      (λ t. test.1 (stands_at t))
      ∙ ap (λ xs. list_any (λ x. x == v) xs) is

-- ---- how many supports are passed

-- at first none are
pub passed_start : (P : Network) (d n : ℕ) → values P ≤ n → ArePassed P d (replicate {A = ℕ} n 0)
passed_start P d n many = record {
  each_value = omega (arith, length-replicate {A = ℕ} n 0);
  each = λ v l k m. absurd (omega (arith, zero_at n v));
}

-- one more is
pub passed_more : (P : Network) (d v many : ℕ) → IsPassed P d v many → ok P (opposite d) (get_or (supports_of P v d) many 0) v ≡ true → IsPassed P d v (many + 1)
passed_more P d v many passed here = below_more (λ k. ok P (opposite d) (get_or (supports_of P v d) k 0) v ≡ true) many passed here

-- of one value
pub passed_set : (P : Network) (d v many : ℕ) (passed : List ℕ) → ArePassed P d passed → v < length passed → IsPassed P d v many → ArePassed P d (set passed v many)
passed_set P d v many passed before l here = record {
  each_value = omega (arith, before.each_value, length-set passed v many);
  each = λ u m k h. elim (cases_eq u v) [
    | inl e ↦
        subst (λ x. ok P (opposite d) (get_or (supports_of P x d) k 0) x ≡ true) (sym e)
        (here k (omega (arith, ap (λ x. get_or (set passed v many) x 0) e, get_or-set_same passed v many 0 l)))
    | inr ne ↦ before.each u m k (omega (arith, get_or-set_other passed v u many 0 ne))
  ];
}

-- the values that have reached a number still have, and one more has
pub reached_set : (P : Network) (d high v many : ℕ) (passed : List ℕ) → v < length passed → HaveReached P d high v passed → HasReached P d v high many
    → HaveReached P d high (v + 1) (set passed v many)
reached_set P d high v many passed l before here u m = elim (cases_lt u v) [
  | inl low ↦ subst (λ n. HasReached P d u high n) (sym (get_or-set_other passed v u many 0 (omega arith))) (before u low)
  | inr ge ↦
      let e : u ≡ v = omega arith in
      subst (λ x. HasReached P d x high (get_or (set passed v many) x 0)) (sym e)
      (subst (λ n. HasReached P d v high n) (sym (get_or-set_same passed v many 0 l)) here)
]

-- with one that isn't, the value isn't mutual
pub passed_fails : (P : Network) (d v k : ℕ) → k < length (supports_of P v d) → ok P (opposite d) (get_or (supports_of P v d) k 0) v ≡ false → is_mutual P v d ≡ false
passed_fails P d v k l fails = false_from_ne_true (is_mutual P v d) (λ all.
    false≢true (sym fails ∙ AllPass-from_list_all (λ w. ok P (opposite d) w v) (supports_of P v d) all k 0 l))

-- where all below the number of values are passed, it is
pub passed_all : (P : Network) → IsIndexed P → (d v high many : ℕ) → values P ≤ high → IsPassed P d v many → HasReached P d v high many → is_mutual P v d ≡ true
passed_all P i d v high many le passed reached =
    list_all-from_AllPass (λ w. ok P (opposite d) w v) (supports_of P v d)
    (λ k e l. ap (λ w. ok P (opposite d) w v) (get_or_default (supports_of P v d) k e 0 l) ∙ passed k (omega (arith, whole)))
  where
    whole : length (supports_of P v d) ≤ many
    whole = elim (cases_lt many (length (supports_of P v d))) [
      | inl l ↦ absurd (omega (arith, reached l, support_in P i v d (supports_of P v d) refl many 0 l))
      | inr ge ↦ ge
    ]
