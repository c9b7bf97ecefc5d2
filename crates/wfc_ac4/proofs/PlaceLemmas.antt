-- How often a removal lowers a counter, and that this is what the support count loses.
use Rattle.std.proofs.Common.{◌≡◌, ◌≢◌, ℕ, zero, suc, ◌+◌, ◌<◌, ◌≤◌, Bool, false, cond, List, [], ◌∷◌, ◌++◌, length, get_or, refl, sym, ◌∙◌, ap, subst, arith, Option, Some, None, inl, inr}
use Rattle.std.specs.Prelude.{◌==◌, count_by, Contains, IsTrue}
use Rattle.std.specs.List.Sorted.{IsStrictlyIncreasing}
use Rattle.std.proofs.lemmas.Bool.{cases_Bool, cases_eq, cases_lt, eq-eqb, ne_eqb, eqb-true}
use Rattle.std.proofs.lemmas.List.{get_or_default}
use Rattle.std.proofs.lemmas.List.Sums.{sum_by-append}
use Rattle.wfc_lists.specs.Counts.{one_if, but}
use Rattle.wfc_lists.proofs.Counts.{count_by-cons, count_by-map, count_by_agree, count_by_but, count_by_but_not, count_by_found, count_by_pos}
use Rattle.wfc_model.specs.Direction.{opposite}
use Rattle.wfc_problem.specs.Network.{Network, values, neighbour, supports_of, IsProblem}
use Rattle.wfc_problem.specs.Domains.{Test, count_at, support_count}
use Rattle.wfc_domains.specs.Counters.{counter_place}
use Rattle.wfc_log.specs.Domains.{less}
use Rattle.wfc_domains.proofs.Places.{place-same}
use Rattle.wfc_domains.proofs.Problems.{rising, in_values, back, symmetric, opposite-in, opposite-opposite, neighbour-dir}
use Rattle.wfc_domains.proofs.Removals.{less-here, less-elsewhere}
use Rattle.wfc_ac4.specs.Places.{side_places, places_upto, counter_places, times}

-- ---- what a removal takes from a support count

-- the count falls by one where it counted the value
pub count-less_hit : (P : Network) → IsProblem P → (D : Test) (c v c' v' d' : ℕ) → IsTrue (D c v) → neighbour P c' d' ≡ Some c → Contains (supports_of P v' d') v → support_count P (less D c v) c' v' d' + 1 ≡ support_count P D c' v' d'
count-less_hit P p D c v c' v' d' t e k =
    let xs = supports_of P v' d' in
    let here = ap (count_at P (less D c v) v' d') e ∙ count_by_agree (less D c v c) (but (D c) v) xs (less-here D c v) in
    let old = ap (count_at P D v' d') e in
    let falls = count_by_but (D c) v xs (rising P p v' d' (neighbour-dir P c' d' c e)) k t in
    omega arith

-- and stays elsewhere
pub count-less_cell : (P : Network) (D : Test) (c v c' v' d' n : ℕ) → neighbour P c' d' ≡ Some n → n ≢ c → support_count P (less D c v) c' v' d' ≡ support_count P D c' v' d'
count-less_cell P D c v c' v' d' n e h =
    ap (count_at P (less D c v) v' d') e
    ∙ count_by_agree (less D c v n) (D n) (supports_of P v' d') (λ w. less-elsewhere D c v n w h)
    ∙ sym (ap (count_at P D v' d') e)

pub count-less_value : (P : Network) (D : Test) (c v c' v' d' : ℕ) → neighbour P c' d' ≡ Some c → (Contains (supports_of P v' d') v → ⊥) → support_count P (less D c v) c' v' d' ≡ support_count P D c' v' d'
count-less_value P D c v c' v' d' e h =
    ap (count_at P (less D c v) v' d') e
    ∙ count_by_agree (less D c v c) (but (D c) v) (supports_of P v' d') (less-here D c v)
    ∙ count_by_but_not (D c) v (supports_of P v' d') h
    ∙ sym (ap (count_at P D v' d') e)

pub count-less_none : (P : Network) (D : Test) (c v c' v' d' : ℕ) → neighbour P c' d' ≡ None → support_count P (less D c v) c' v' d' ≡ support_count P D c' v' d'
count-less_none P D c v c' v' d' e = ap (count_at P (less D c v) v' d') e ∙ sym (ap (count_at P D v' d') e)

-- ---- how often a place is listed

pub times-append : (i : ℕ) (xs ys : List ℕ) → times i (xs ++ ys) ≡ times i xs + times i ys
times-append i xs ys = sum_by-append (λ x. cond (x == i) 1 0) xs ys

-- tests that agree on the elements
agree_at : (p q : ℕ → Bool) (xs : List ℕ) → ((k : ℕ) → k < length xs → p (get_or xs k 0) ≡ q (get_or xs k 0)) → count_by p xs ≡ count_by q xs
agree_at p q [] h = refl
agree_at p q (x ∷ xs) h =
    count_by-cons p x xs ∙ ap (λ b. one_if b + count_by p xs) (h 0 (omega arith))
    ∙ ap (λ n. one_if (q x) + n) (agree_at p q xs (λ k l. h (suc k) (omega arith))) ∙ sym (count_by-cons q x xs)

never : (xs : List ℕ) → count_by (λ x. false) xs ≡ 0
never [] = refl
never (x ∷ xs) = count_by-cons (λ y. false) x xs ∙ ap (λ n. 0 + n) (never xs)

-- a rising list has each of its numbers once
pub times-one : (w : ℕ) (xs : List ℕ) → IsStrictlyIncreasing xs → Contains xs w → times w xs ≡ 1
times-one w xs up k =
    let falls = count_by_but (λ x. x == w) w xs up k (eq-eqb w w refl) in
    let gone = count_by_agree (but (λ x. x == w) w) (λ x. false) xs (λ x. let h = cases_Bool (x == w) in grind arith) ∙ never xs in
    omega arith

pub times-none : (w : ℕ) (xs : List ℕ) → (Contains xs w → ⊥) → times w xs ≡ 0
times-none w xs lacks =
    sym (count_by_but_not (λ x. x == w) w xs lacks) ∙ count_by_agree (but (λ x. x == w) w) (λ x. false) xs (λ x. let h = cases_Bool (x == w) in grind arith) ∙ never xs

-- the side that turns to the place lists it as often as the value is supported
times-side_hit : (P : Network) → IsProblem P → (v d n v' : ℕ) → d < P.dirs → v' < values P → times (counter_place P n v' (opposite d)) (side_places P v d (Some n)) ≡ times v' (supports_of P v d)
times-side_hit P p v d n v' hd hv =
    let xs = supports_of P v d in
    let i = counter_place P n v' (opposite d) in
    count_by-map (λ x. x == i) (λ w. counter_place P n w (opposite d)) xs
    ∙ agree_at (λ w. counter_place P n w (opposite d) == i) (λ w. w == v') xs
    (λ k l.
    let w = get_or xs k 0 in
    let hw = in_values P p v w d hd (k, l, get_or_default xs k w 0 l) in
    let ho = opposite-in P p d hd in
    elim (cases_eq w v') [
      | inl e ↦ eq-eqb _ _ (ap (λ y. counter_place P n y (opposite d)) e) ∙ sym (eq-eqb w v' e)
      | inr ne ↦ ne_eqb _ _ (λ e. ne (place-same P n w (opposite d) n v' (opposite d) hw hv ho ho e).1) ∙ sym (ne_eqb w v' ne)
    ])

-- other sides do not list it
times-side_miss : (P : Network) → IsProblem P → (v d c' v' d' : ℕ) (o : Option ℕ) → d < P.dirs → v' < values P → d' < P.dirs → ((n : ℕ) → o ≡ Some n → n ≡ c' → opposite d ≡ d' → ⊥) → times (counter_place P c' v' d') (side_places P v d o) ≡ 0
times-side_miss P p v d c' v' d' None hd hv hd' other = refl
times-side_miss P p v d c' v' d' (Some n) hd hv hd' other =
    let xs = supports_of P v d in
    let i = counter_place P c' v' d' in
    count_by-map (λ x. x == i) (λ w. counter_place P n w (opposite d)) xs
    ∙ agree_at (λ w. counter_place P n w (opposite d) == i) (λ w. false) xs
    (λ k l.
    let w = get_or xs k 0 in
    let hw = in_values P p v w d hd (k, l, get_or_default xs k w 0 l) in
    ne_eqb _ _ (λ e. let s = place-same P n w (opposite d) c' v' d' hw hv (opposite-in P p d hd) hd' e in other n refl s.0 s.2))
    ∙ never xs

-- of all sides only the one that turns to the place counts
times-upto : (P : Network) → IsProblem P → (c v c' v' d' : ℕ) → v' < values P → d' < P.dirs → (m : ℕ) → m ≤ P.dirs
    → (m ≤ opposite d' → times (counter_place P c' v' d') (places_upto P c v m) ≡ 0)
    × (opposite d' < m → times (counter_place P c' v' d') (places_upto P c v m) ≡ times (counter_place P c' v' d') (side_places P v (opposite d') (neighbour P c (opposite d'))))
times-upto P p c v c' v' d' hv hd' zero hm = (λ l. refl, λ l. absurd (omega arith))
times-upto P p c v c' v' d' hv hd' (suc m) hm =
    let i = counter_place P c' v' d' in
    let before = places_upto P c v m in
    let rest = times-upto P p c v c' v' d' hv hd' m (omega arith) in
    let both = times-append i before (side_places P v m (neighbour P c m)) in
    let turned = opposite-opposite P p d' hd' in
    let off : m ≢ opposite d' → times i (side_places P v m (neighbour P c m)) ≡ 0 = λ ne.
    times-side_miss P p v m c' v' d' (neighbour P c m) (omega arith) hv hd'
    (λ n e f g. ne (sym (opposite-opposite P p m (omega arith)) ∙ ap opposite g)) in (
      (λ l. let z = rest.0 (omega arith) in let y = off (omega arith) in omega arith),
      (λ l. elim (cases_eq m (opposite d')) [
        | inl e ↦
            let z = rest.0 (omega arith) in
            let same = ap (λ k. times i (side_places P v k (neighbour P c k))) e in
            omega arith
        | inr ne ↦ let z = rest.1 (omega arith) in let y = off ne in omega arith
      ]),
    )

-- the place is listed as often as the side that turns to it lists it
times-turned : (P : Network) → IsProblem P → (c v c' v' d' : ℕ) → v' < values P → d' < P.dirs → times (counter_place P c' v' d') (counter_places P c v) ≡ times (counter_place P c' v' d') (side_places P v (opposite d') (neighbour P c (opposite d')))
times-turned P p c v c' v' d' hv hd' = (times-upto P p c v c' v' d' hv hd' P.dirs (omega arith)).1 (opposite-in P p d' hd')

-- no counter of a cell that is not beside c there is lowered
times-apart : (P : Network) → IsProblem P → (c v c' v' d' : ℕ) → v' < values P → d' < P.dirs → (neighbour P c' d' ≡ Some c → ⊥) → times (counter_place P c' v' d') (counter_places P c v) ≡ 0
times-apart P p c v c' v' d' hv hd' apart =
    let turned = opposite-opposite P p d' hd' in
    times-turned P p c v c' v' d' hv hd'
    ∙ times-side_miss P p v (opposite d') c' v' d' (neighbour P c (opposite d')) (opposite-in P p d' hd') hv hd'
    (λ n e f g. apart (ap (neighbour P c') (sym turned) ∙ back P p c (opposite d') c' (e ∙ ap (λ (x : ℕ). Some x) f)))

-- beside c it is lowered as often as v' is among what v supports
times-beside : (P : Network) → IsProblem P → (c v c' v' d' : ℕ) → v' < values P → d' < P.dirs → neighbour P c' d' ≡ Some c → times (counter_place P c' v' d') (counter_places P c v) ≡ times v' (supports_of P v (opposite d'))
times-beside P p c v c' v' d' hv hd' e =
    let turned = opposite-opposite P p d' hd' in
    times-turned P p c v c' v' d' hv hd'
    ∙ ap (λ o. times (counter_place P c' v' d') (side_places P v (opposite d') o)) (back P p c' d' c e)
    ∙ ap (λ k. times (counter_place P c' v' k) (side_places P v (opposite d') (Some c'))) (sym turned)
    ∙ times-side_hit P p v (opposite d') c' v' (opposite-in P p d' hd') hv

-- what the counters of a removal lose is what the support counts lose
pub places-count : (P : Network) → IsProblem P → (D : Test) (c v c' v' d' : ℕ) → IsTrue (D c v) → v' < values P → d' < P.dirs
    → support_count P (less D c v) c' v' d' + times (counter_place P c' v' d') (counter_places P c v) ≡ support_count P D c' v' d'
places-count P p D c v c' v' d' t hv hd' =
    let turned = opposite-opposite P p d' hd' in
    let Q : Option ℕ → Type 0 = λ o. neighbour P c' d' ≡ o → support_count P (less D c v) c' v' d' + times (counter_place P c' v' d') (counter_places P c v) ≡ support_count P D c' v' d' in
    elim (neighbour P c' d') as Q [
      | None ↦ λ e.
          let same = count-less_none P D c v c' v' d' e in
          let zero' = times-apart P p c v c' v' d' hv hd' (λ f. let z : None ≡ Some c = sym e ∙ f in cc) in
          omega arith
      | Some n ↦ λ e. elim (cases_eq n c) [
        | inl f ↦
            let e' : neighbour P c' d' ≡ Some c = e ∙ ap (λ (x : ℕ). Some x) f in
            let listed = times-beside P p c v c' v' d' hv hd' e' in
            elim (cases_lt 0 (times v (supports_of P v' d'))) [
              | inl l ↦
                  let k = count_by_found (λ x. x == v) (supports_of P v' d') l in
                  let k' : Contains (supports_of P v' d') v = subst (λ x. Contains (supports_of P v' d') x) (eqb-true k.0 v k.2) k.1 in
                  let hit = count-less_hit P p D c v c' v' d' t e' k' in
                  let one = times-one v' (supports_of P v (opposite d')) (rising P p v (opposite d') (opposite-in P p d' hd')) (symmetric P p v' v d' hd' k') in
                  omega arith
              | inr l ↦
                  let lacks : Contains (supports_of P v' d') v → ⊥ = λ k. let pos = count_by_pos (λ x. x == v) (supports_of P v' d') v k (eq-eqb v v refl) in omega arith in
                  let miss = count-less_value P D c v c' v' d' e' lacks in
                  let none = times-none v' (supports_of P v (opposite d')) (λ k. lacks (subst (λ x. Contains (supports_of P v' x) v) turned (symmetric P p v v' (opposite d') (opposite-in P p d' hd') k))) in
                  omega arith
            ]
        | inr ne ↦
            let same = count-less_cell P D c v c' v' d' n e ne in
            let none = times-apart P p c v c' v' d' hv hd' (λ f. ne (let z : Some n ≡ Some c = sym e ∙ f in cc)) in
            omega arith
      ]
    ] refl
