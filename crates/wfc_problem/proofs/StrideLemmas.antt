-- The sides of cells with four neighbours, and those that are kept of each kind of cells.
use Rattle.std.proofs.Common.{◌≡◌, ℕ, suc, ◌+◌, ◌*◌, ◌/◌, ◌%◌, ◌^◌, ◌<◌, ◌≤◌, List, [], ◌∷◌, ◌++◌, length, get_or, map, sym, ◌∙◌, ap, subst, arith, Option, Some, None, inl, inr}
use Rattle.std.specs.Prelude.{IfSome, slice_index}
use Rattle.std.proofs.lemmas.Bool.{cases_lt, cases_eq, cond-false, ne_eqb}
use Rattle.std.proofs.lemmas.List.{length-map, length_push, get_or-map, get_or_default, get_or_past, get_or_append_left, get_or-append-add}
use Rattle.std.proofs.lemmas.Nat.{mul-mod_first}
use Rattle.std.proofs.Math.Nat.{add-mod-mod, add-mul, mod-add-div', mul-le-mul_right}
use Rattle.wfc_problem.specs.declared.TheConstants.{NO_HOP}
use Rattle.wfc_problem.specs.declared.strides.FourSides.{FourSides}
use Rattle.wfc_problem.specs.Network.{Network, neighbour, beside, entry_cell, IsProblem}
use Rattle.wfc_problem.specs.Hops.{Beside, hop_cell, hop_end, table_row, hops_row, hops_table, AreHops}
use Rattle.wfc_problem.specs.Strides.{sides_by_kind, AreStrides, AreSidesOf, AreSidesByKind, HaveTheirHops}
use Rattle.wfc_problem.proofs.HopLemmas.{hops_length, hop_names, hops_named}

-- ---- of each kind

-- a row of a table lies within it
pub row_within : (long dirs k : ℕ) → 0 < dirs → k < long / dirs → k * dirs + dirs ≤ long
row_within long dirs k some l =
    let le : suc k * dirs ≤ (long / dirs) * dirs = mul-le-mul_right dirs l in
    omega (arith, le, mod-add-div' long dirs)

-- the sides of the first rows of a table are those of the hops in them
abbrev pub AreSidesOfRows : ℕ → List ℕ → ℕ → List (Option FourSides) → Type 0
AreSidesOfRows dirs rows n sides = (k : ℕ) (x : FourSides) → get_or sides k None ≡ Some x → AreSidesOf n (table_row dirs rows k) x

-- of no row there are any
pub sides_none : (dirs n : ℕ) (rows : List ℕ) → AreSidesOfRows dirs rows n []
sides_none dirs n rows k x e = absurd (let z : None ≡ Some x = e in cc)

-- one row more
pub sides_more : (dirs n k : ℕ) (rows : List ℕ) (old new : List (Option FourSides)) (o : Option FourSides) → length old ≡ k → AreSidesOfRows dirs rows n old
    → IfSome o (AreSidesOf n (table_row dirs rows k)) → new ≡ old ++ o ∷ [] → AreSidesOfRows dirs rows n new
sides_more dirs n k rows old new o so_many h one is j x e = elim (cases_lt j k) [
  | inl l ↦ h j x (sym (get_or_append_left old (o ∷ []) None j (omega (arith, so_many))) ∙ ap (λ xs. get_or xs j None) (sym is) ∙ e)
  | inr ge ↦ elim (cases_eq j k) [
    | inl same ↦
        let here : get_or new j None ≡ o =
        ap (λ xs. get_or xs j None) is ∙ ap (λ i. get_or (old ++ o ∷ []) i None) (let z : j ≡ length old + 0 = omega (arith, so_many, same) in z) ∙ get_or-append-add old (o ∷ []) 0 None in
        subst (λ i. AreSidesOf n (table_row dirs rows i) x) (sym same) (subst (λ p. IfSome p (AreSidesOf n (table_row dirs rows k))) (sym here ∙ e) one)
    | inr ne ↦
        let past : get_or new j None ≡ None = get_or_past new j None (omega (arith, ap length is, length_push old o, so_many, ne)) in
        absurd (let z : None ≡ Some x = sym past ∙ e in cc)
  ]
]

-- so the sides of a cell are those of its row of hops
pub sides_by_row : (dirs n : ℕ) (kinds rows : List ℕ) (sides : List (Option FourSides)) → AreSidesOfRows dirs rows n sides → AreSidesByKind dirs kinds rows n (sides_by_kind kinds sides)
sides_by_row dirs n kinds rows sides h c x e =
    let f : ℕ → Option FourSides = λ k. get_or sides k None in
    elim (cases_lt c (length kinds)) [
      | inl l ↦
          let at : get_or (map f kinds) c None ≡ get_or sides (get_or kinds c 0) None = get_or-map f kinds c 0 None l in
          subst (λ k. AreSidesOf n (table_row dirs rows k) x) (sym (get_or_default kinds c c 0 l)) (h (get_or kinds c 0) x (sym at ∙ e))
      | inr ge ↦
          let past : get_or (map f kinds) c None ≡ None = get_or_past (map f kinds) c None (omega (arith, length-map kinds f)) in
          absurd (let z : None ≡ Some x = sym past ∙ e in cc)
    ]

-- ---- of a problem

-- the row of hops of a cell says what is beside it
pub by_their_hops : (cells dirs n : ℕ) (kinds rows kinds' rows' : List ℕ) (sides : List (Option FourSides)) → kinds' ≡ kinds → rows' ≡ rows → AreHops cells dirs kinds rows → AreSidesByKind dirs kinds' rows' n sides
    → HaveTheirHops (record { cells = cells; dirs = dirs; entries = hops_table cells dirs kinds rows }) n sides
by_their_hops cells dirs n kinds rows kinds' rows' sides ek er h by c x hc e = record {
  hops = hops_row dirs kinds rows c;
  named = hops_named cells dirs kinds rows c h hc;
  sides = subst (λ xs. AreSidesOf n (hops_row dirs kinds xs c) x) er (subst (λ ks. AreSidesOf n (hops_row dirs ks rows' c) x) ek (by c x e));
}

-- a number below 2^32 isn't cut
cut_small : (m : ℕ) → m < 4294967296 → m % 4294967296 ≡ m
cut_small m l = omega arith

-- where a row begins, with the product of a hop added, the row of the hop's end begins
begins_at : (c h n : ℕ) → hop_end c h * n < 2 ^ 32 → hop_end (c * n) ((h * n) % 2 ^ 32) ≡ hop_end c h * n
begins_at c h n few =
    add-mod-mod (c * n) (h * n) (2 ^ 32)
    ∙ ap (λ m. m % 2 ^ 32) (sym (add-mul c h n))
    ∙ sym (mul-mod_first (c + h) n (2 ^ 32))
    ∙ cut_small (hop_end c h * n) few

-- the sides that are kept of the cells are those that the cells have
pub strides_are : (P : Network) → IsProblem P → (n : ℕ) (B : Beside) (sides : List (Option FourSides)) → P.cells * n < 2 ^ 32 → B.cells ≡ P.cells → B.dirs ≡ P.dirs → B.entries ≡ P.neighbours
    → HaveTheirHops B n sides → AreStrides P n sides
strides_are P p n B sides few cells dirs entries h c x hc e =
    let s = h c x (omega (arith, cells)) e in
    let named : map (hop_cell c) s.hops ≡ map entry_cell (beside P c) =
    s.named ∙ ap (λ k. map entry_cell (table_row k B.entries c)) dirs ∙ ap (λ xs. map entry_cell (table_row P.dirs xs c)) entries in
    let four : P.dirs ≡ 4 = sym (hops_length P p c s.hops hc named) ∙ s.sides.four in
    record {
      four = four;
      each = λ d l.
          let hop = slice_index s.hops d in
          let end = hop_end c hop in
          let beside : neighbour P c d ≡ Some end =
          hop_names P p c d s.hops hc (omega (arith, four, l)) named ∙ cond-false _ None (Some end) (ne_eqb hop NO_HOP (s.sides.some d l)) in
          let below : end < P.cells = p.indexed.in_cells c d end beside in
          let le : end * n ≤ P.cells * n = mul-le-mul_right n (let z : end ≤ P.cells = omega (arith, below) in z) in
          rw (s.sides.same d l, s.sides.strides d l) (record {
            beside = beside;
            begins = begins_at c hop n (omega (arith, le, few));
          });
    }
