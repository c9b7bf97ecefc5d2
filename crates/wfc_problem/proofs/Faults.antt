-- What each check of the parts shows, and that parts with no fault are a problem.
use Rattle.std.proofs.Common.{◌≡◌, ℕ, ◌+◌, ◌*◌, ◌/◌, ◌%◌, ◌<◌, ◌≤◌, true, false, [], length, get_or, refl, sym, ◌∙◌, ap, arith, Option, Some, None, inl, inr, Result, Ok, Err}
use Rattle.std.specs.Prelude.{not, ◌==◌, Contains, nat_lt, ◌↔◌, IsOk}
use Rattle.std.specs.Option.{option_map}
use Rattle.std.specs.Result.{result_err}
use Rattle.wfc_model.specs.Direction.{opposite}
use Rattle.wfc_problem.specs.declared.Part.TheVariants.{Cells, Neighbours, Weights, Supports, Base}
use Rattle.wfc_problem.specs.declared.ProblemFault.TheVariants.{TooLarge, NotSymmetric, BadIndex, NotBack, Lengths, BadWeight}
use Rattle.wfc_problem.specs.declared.TheConstants.{MAX_PAIRS, MAX_VALUES, MAX_WEIGHT, NO_CELL}
use Rattle.wfc_problem.specs.Network.{Network, values, value_weight, neighbour, supports_of, ok, HasTables, IsIndexed, IsWeighed, IsProblem}
use Rattle.wfc_problem.specs.Fault.{first_failing, lengths_fault, pair_count_fault, neighbours_fault, supports_fault, weight_fault, back_fault, symmetry_fault, problem_fault_of, is_entry, is_weight, rises, leads_back, returns, names_cell, is_mutual}
use Rattle.wfc_problem.specs.Symmetry.{IsEarliest}
use Rattle.std.proofs.lemmas.Bool.{cases_lt, cases_eq, and_parts, and_from, or_cases, or_left, or_right, eqb-true, eq-eqb, ltb-true, lt-ltb, leb-true, le-leb, not-false, not_from_true}
use Rattle.std.proofs.lemmas.List.{get_or_default, get_or_past}
use Rattle.std.proofs.Math.Nat.{mul-le-mul_left, mul_comm}
use Rattle.std.proofs.lemmas.List.Sums.{AllPass-from_list_all, list_all-from_AllPass}
use Rattle.wfc_problem.specs.declared.ProblemFault.{ProblemFault}
use Rattle.wfc_problem.proofs.Rises.{Rises, Rises_from, rises_true}
use Rattle.wfc_problem.proofs.Tables.{neighbour_read, neighbour_not_none, neighbour_is, supports_at, supports_past, supports_inside}
use Rattle.wfc_lists.proofs.Lists.{has_Contains, Contains_has}
use Rattle.wfc_lists.proofs.Options.{both_none, or_none, map_none}
use Rattle.wfc_lists.proofs.Positions.{position_fails, position_none}
use Rattle.wfc_lists.proofs.Tables.{row_below}
use Rattle.wfc_problem.proofs.Firsts.{unless_none, none_unless, pair_at, pair_none, pair_passed, failing_none, earliest_pair}

-- the first place at which a way doesn't lead back is the fault
pub back_at : (P : Network) (c d : ℕ) → c < P.cells → ((k : ℕ) → k < c → first_failing (leads_back P k) P.dirs ≡ None) → first_failing (leads_back P c) P.dirs ≡ Some d → back_fault P ≡ Some (NotBack c d)
back_at P c d l before here = ap (option_map (λ p. NotBack p.0 p.1)) (pair_at (leads_back P) P.cells P.dirs c d l before here)

-- and where each leads back there is none
pub back_none : (P : Network) → ((k : ℕ) → k < P.cells → first_failing (leads_back P k) P.dirs ≡ None) → back_fault P ≡ None
back_none P each = ap (option_map (λ p. NotBack p.0 p.1)) (pair_none (leads_back P) P.cells P.dirs each)

-- the least value whose supports are not mutual, with its first such direction, is the fault
pub symmetry_is : (P : Network) (o : Option (ℕ × ℕ)) → IsEarliest (is_mutual P) (values P) P.dirs o → symmetry_fault P ≡ option_map (λ p. NotSymmetric p.0 p.1) o
symmetry_is P o earliest = ap (option_map (λ p. NotSymmetric p.0 p.1)) (earliest_pair (is_mutual P) (values P) P.dirs o earliest)

-- ---- what each check shows

-- the counts and lengths, and the number of pairs
pub sized : (P : Network) → lengths_fault P ≡ None → pair_count_fault P ≡ None → HasTables P
sized P lengths size =
    let a = both_none _ _ lengths in
    let b = both_none _ _ a.1 in
    let c = both_none _ _ b.1 in
    let d = both_none _ _ c.1 in
    let counts = and_parts _ _ (unless_none _ (Lengths Cells) a.0) in
    let few = and_parts _ _ (unless_none _ (Lengths Weights) b.0) in
    let some_value : 0 < values P = ltb-true 0 (values P) few.0 in
    let few_pairs : P.cells * values P ≤ MAX_PAIRS = leb-true _ _ (unless_none _ (TooLarge (P.cells * values P)) size) in
    let more : P.cells * 1 ≤ P.cells * values P = mul-le-mul_left P.cells some_value in
    record {
      some_cell = ltb-true 0 P.cells counts.0;
      few_cells = omega arith;
      four_or_six = elim (or_cases _ _ counts.1) [ inl t ↦ inl (eqb-true P.dirs 4 t) | inr t ↦ inr (eqb-true P.dirs 6 t) ];
      some_value = some_value;
      few_values = leb-true _ _ few.1;
      few_pairs = few_pairs;
      neighbours_table = eqb-true _ _ (unless_none _ (Lengths Neighbours) c.0);
      supports_table = eqb-true _ _ (unless_none _ (Lengths Supports) d.0);
      base_table = eqb-true _ _ (unless_none _ (Lengths Base) d.1);
    }

-- the lists of supports
pub list_rises : (P : Network) → supports_fault P ≡ None → (v d : ℕ) → Rises 0 (values P) (supports_of P v d)
list_rises P none v d =
    let i = v * P.dirs + d in
    elim (cases_lt d P.dirs) [
      | inr past ↦ Rises_from 0 (values P) (supports_of P v d) (ap (rises 0 (values P)) (supports_past P v d past))
      | inl hd ↦ elim (cases_lt i (length P.supports)) [
        | inl l ↦ Rises_from 0 (values P) (supports_of P v d)
            (ap (rises 0 (values P)) (supports_at P v d hd)
            ∙ not-false _ (position_fails (λ ws. not (rises 0 (values P) ws)) P.supports (map_none (λ at. BadIndex Supports at) _ none) i [] l))
        | inr ge ↦ Rises_from 0 (values P) (supports_of P v d) (ap (rises 0 (values P)) (supports_at P v d hd ∙ get_or_past P.supports i [] ge))
      ]
    ]

-- the entries of the neighbours
pub entry_below : (P : Network) → neighbours_fault P ≡ None → (c d n : ℕ) → neighbour P c d ≡ Some n → n < P.cells
entry_below P none c d n e =
    let r = neighbour_read P c d n e in
    let i = c * P.dirs + d in
    let passed = not-false _ (position_fails (λ n. not (is_entry P.cells n)) P.neighbours (map_none (λ at. BadIndex Neighbours at) _ none) i NO_CELL r.inside) in
    let at : is_entry P.cells n ≡ true = sym (ap (is_entry P.cells) r.entry) ∙ passed in
    elim (or_cases _ _ at) [
      | inl t ↦
          let same = eqb-true n NO_CELL t in
          absurd (neighbour_not_none P c d n e same)
      | inr t ↦ ltb-true n P.cells t
    ]

-- the indices
pub indexed : (P : Network) → neighbours_fault P ≡ None → supports_fault P ≡ None → IsIndexed P
indexed P neighbours supports = record {
  in_cells = entry_below P neighbours;
  rising = λ v d. (list_rises P supports v d).strictly;
  in_values = λ v w d k. let r = (list_rises P supports v d).below k.0 k.1 in let same = get_or_default (supports_of P v d) k.0 0 w k.1 ∙ k.2 in omega arith;
}

-- the weights
pub weighed : (P : Network) → weight_fault P ≡ None → IsWeighed P
weighed P none = record { some_weight = λ v l. (each v l).0; small_weight = λ v l. (each v l).1 }
  where
    each : (v : ℕ) → v < values P → (0 < value_weight P v) × (value_weight P v ≤ MAX_WEIGHT)
    each v l =
        let parts = and_parts _ _ (not-false _ (position_fails (λ w. not (is_weight w)) P.weights (map_none (λ v. BadWeight v) _ none) v 0 l)) in
        (ltb-true 0 (value_weight P v) parts.0, leb-true (value_weight P v) MAX_WEIGHT parts.1)

-- the cell that is named
names_cell_is : (c : ℕ) (o : Option ℕ) → names_cell c o ≡ true → o ≡ Some c
names_cell_is c None t = cc
names_cell_is c (Some n) t = ap (λ (m : ℕ). Some m) (eqb-true n c t)

-- the ways back
pub goes_back : (P : Network) → HasTables P → back_fault P ≡ None → (c d n : ℕ) → neighbour P c d ≡ Some n → neighbour P n (opposite d) ≡ Some c
goes_back P s none c d n e =
    let r = neighbour_read P c d n e in
    let l = row_below c d P.dirs P.cells (omega (arith, r.inside, s.neighbours_table)) in
    let t = pair_passed (leads_back P) P.cells P.dirs (map_none (λ p. NotBack p.0 p.1) _ none) c d l r.dir_in in
    names_cell_is c (neighbour P n (opposite d)) (sym (ap (returns P c d) e) ∙ t)

-- the symmetry
pub goes_both_ways : (P : Network) → HasTables P → symmetry_fault P ≡ None → (v w d : ℕ) → Contains (supports_of P v d) w → Contains (supports_of P w (opposite d)) v
goes_both_ways P s none v w d k =
    let at = supports_inside P v d w k in
    let l = row_below v d P.dirs (values P) (omega (arith, at.1, s.supports_table)) in
    let t = pair_passed (is_mutual P) (values P) P.dirs (map_none (λ p. NotSymmetric p.0 p.1) _ none) v d l at.0 in
    let each = AllPass-from_list_all (λ w. ok P (opposite d) w v) (supports_of P v d) t k.0 w k.1 in
    has_Contains (supports_of P w (opposite d)) v (sym (ap (λ x. ok P (opposite d) x v) k.2) ∙ each)

-- parts with no fault are a problem
pub problem_from : (P : Network) → problem_fault_of P ≡ None → IsProblem P
unfolding problem_fault_of
problem_from P none =
    let a = both_none _ _ none in
    let b = both_none _ _ a.1 in
    let c = both_none _ _ b.1 in
    let d = both_none _ _ c.1 in
    let e = both_none _ _ d.1 in
    let f = both_none _ _ e.1 in
    let s = sized P a.0 b.0 in
    record { sized = s; indexed = indexed P c.0 d.0; weighed = weighed P e.0; back = goes_back P s f.0; symmetric = goes_both_ways P s f.1 }

-- ---- and the other way

-- none is mapped to none
maps : {A B : Type 0} (f : A → B) (o : Option A) → o ≡ None → option_map f o ≡ None
maps f o e = ap (option_map f) e

-- a place of a table is its row and its column
place_is : (i columns : ℕ) → 0 < columns → (i / columns) * columns + i % columns ≡ i
place_is i columns l = omega (arith, mul_comm (i / columns) columns)

-- there is a direction
some_dirs : (P : Network) → IsProblem P → 0 < P.dirs
some_dirs P p = elim p.sized.four_or_six [ inl e ↦ omega arith | inr e ↦ omega arith ]

-- the counts and lengths
lengths_none : (P : Network) → IsProblem P → lengths_fault P ≡ None
lengths_none P p =
    or_none _ _ (none_unless _ (Lengths Cells) (and_from _ _ (lt-ltb 0 P.cells p.sized.some_cell)
    (elim p.sized.four_or_six [ inl e ↦ or_left _ _ (eq-eqb P.dirs 4 e) | inr e ↦ or_right _ _ (eq-eqb P.dirs 6 e) ])))
    (or_none _ _ (none_unless _ (Lengths Weights) (and_from _ _ (lt-ltb 0 (values P) p.sized.some_value) (le-leb (values P) MAX_VALUES p.sized.few_values)))
    (or_none _ _ (none_unless _ (Lengths Neighbours) (eq-eqb _ _ p.sized.neighbours_table))
    (or_none _ _ (none_unless _ (Lengths Supports) (eq-eqb _ _ p.sized.supports_table))
    (none_unless _ (Lengths Base) (eq-eqb _ _ p.sized.base_table)))))

-- the entries of the neighbours
neighbours_none : (P : Network) → IsProblem P → neighbours_fault P ≡ None
neighbours_none P p = maps (λ at. BadIndex Neighbours at) _ (position_none (λ n. not (is_entry P.cells n)) P.neighbours NO_CELL each)
  where
    each : (k : ℕ) → k < length P.neighbours → not (is_entry P.cells (get_or P.neighbours k NO_CELL)) ≡ false
    each k l =
        let entry = get_or P.neighbours k NO_CELL in
        let c = k / P.dirs in
        let d = k % P.dirs in
        let some = some_dirs P p in
        let hd : d < P.dirs = omega arith in
        let same : get_or P.neighbours (c * P.dirs + d) NO_CELL ≡ entry = ap (λ i. get_or P.neighbours i NO_CELL) (place_is k P.dirs some) in
        not_from_true _ (elim (cases_eq entry NO_CELL) [
          | inl e ↦ or_left _ _ (eq-eqb entry NO_CELL e)
          | inr ne ↦
              let lt = p.indexed.in_cells c d _ (neighbour_is P c d hd (λ e. ne (sym same ∙ e))) in
              or_right (entry == NO_CELL) (nat_lt entry P.cells) (lt-ltb entry P.cells (let z : get_or P.neighbours (c * P.dirs + d) NO_CELL < P.cells = lt in omega arith))
        ])

-- the lists of supports
supports_none : (P : Network) → IsProblem P → supports_fault P ≡ None
supports_none P p = maps (λ at. BadIndex Supports at) _ (position_none (λ ws. not (rises 0 (values P) ws)) P.supports [] each)
  where
    each : (k : ℕ) → k < length P.supports → not (rises 0 (values P) (get_or P.supports k [])) ≡ false
    each k l =
        let v = k / P.dirs in
        let d = k % P.dirs in
        let some = some_dirs P p in
        let hd : d < P.dirs = omega arith in
        let xs = supports_of P v d in
        let good = rises_true 0 (values P) xs (record {
          strictly = p.indexed.rising v d;
          below = λ j m. p.indexed.in_values v (get_or xs j 0) d (j, m, get_or_default xs j (get_or xs j 0) 0 m);
          from = λ m. omega arith;
        }) in
        not_from_true _ (sym (ap (rises 0 (values P)) (supports_at P v d hd ∙ ap (λ i. get_or P.supports i []) (place_is k P.dirs some))) ∙ good)

-- the weights
weights_none : (P : Network) → IsProblem P → weight_fault P ≡ None
weights_none P p = maps (λ v. BadWeight v) _ (position_none (λ w. not (is_weight w)) P.weights 0
    (λ k l. not_from_true _ (and_from _ _ (lt-ltb 0 (value_weight P k) (p.weighed.some_weight k l)) (le-leb (value_weight P k) MAX_WEIGHT (p.weighed.small_weight k l)))))

-- the ways back
leads_true : (P : Network) → IsProblem P → (c d : ℕ) → leads_back P c d ≡ true
leads_true P p c d =
    let Q : Option ℕ → Type 0 = λ o. neighbour P c d ≡ o → returns P c d o ≡ true in
    elim (neighbour P c d) as Q [
      | None ↦ λ e. refl
      | Some n ↦ λ e. ap (names_cell c) (p.back c d n e) ∙ eq-eqb c c refl
    ] refl

-- the symmetry
mutual_true : (P : Network) → IsProblem P → (v d : ℕ) → is_mutual P v d ≡ true
mutual_true P p v d = list_all-from_AllPass (λ w. ok P (opposite d) w v) (supports_of P v d)
    (λ k e l. let xs = supports_of P v d in
    let w = get_or xs k e in
    Contains_has (supports_of P w (opposite d)) v (p.symmetric v w d (k, l, get_or_default xs k w e l)))

-- a problem's parts have no fault
pub fault_none : (P : Network) → IsProblem P → problem_fault_of P ≡ None
unfolding problem_fault_of
fault_none P p =
    or_none _ _ (lengths_none P p)
    (or_none _ _ (none_unless _ (TooLarge (P.cells * values P)) (le-leb _ MAX_PAIRS p.sized.few_pairs))
    (or_none _ _ (neighbours_none P p)
    (or_none _ _ (supports_none P p)
    (or_none _ _ (weights_none P p)
    (or_none _ _ (back_none P (λ k l. failing_none (leads_back P k) P.dirs (λ d m. leads_true P p k d)))
    (symmetry_is P None (λ v d hv hd. mutual_true P p v d)))))))

-- an answer that names the parts' fault, if they have one, is Ok exactly where they are a problem
pub ok_problem : {X : Type 0} (P : Network) (r : Result X ProblemFault) → result_err r ≡ problem_fault_of P → IsOk r ↔ IsProblem P
ok_problem P (Ok x) e = ((λ _. problem_from P (sym e)), (λ _. refl))
ok_problem P (Err f) e = ((λ t. cc), (λ p. let clash = e ∙ fault_none P p in cc))
