-- What the tables of a problem have at a place.
use Rattle.std.proofs.Common.{◌≡◌, ℕ, suc, ◌+◌, ◌*◌, ◌<◌, ◌≤◌, Bool, true, false, List, [], length, get_or, take, drop, sym, ◌∙◌, ap, arith, Some, None, inl, inr}
use Rattle.std.specs.Prelude.{Contains}
use Rattle.std.proofs.lemmas.Bool.{false≢true, cases_lt, cases_eq, eq-eqb, ne_eqb, lt-ltb, le-ltb, cond-true, cond-false}
use Rattle.std.proofs.lemmas.List.{get_or_past, get_or-take, get_or-drop, length-take, length-drop}
use Rattle.std.proofs.Math.Nat.{mul-le-mul_right}
use Rattle.wfc_lists.proofs.Tables.{row_below}
use Rattle.wfc_problem.specs.declared.TheConstants.{NO_CELL}
use Rattle.wfc_problem.specs.Network.{Network, values, neighbour, entry_cell, beside, supports_of, has_flag, in_base, IsProblem}

-- ---- neighbours and supports

-- a neighbour is what the table has in a direction that there is
pub record IsRead (P : Network) (c d n : ℕ) : Type 0 where
  pub dir_in : d < P.dirs
  pub inside : c * P.dirs + d < length P.neighbours
  pub entry : get_or P.neighbours (c * P.dirs + d) NO_CELL ≡ n

pub neighbour_read : (P : Network) (c d n : ℕ) → neighbour P c d ≡ Some n → IsRead P c d n
neighbour_read P c d n e = elim (cases_lt d P.dirs) [
  | inr ge ↦
      let z : neighbour P c d ≡ None = cond-false _ (entry_cell (get_or P.neighbours (c * P.dirs + d) NO_CELL)) None (le-ltb d P.dirs ge) in
      cc
  | inl l ↦
      let i = c * P.dirs + d in
      let at : neighbour P c d ≡ entry_cell (get_or P.neighbours i NO_CELL) = cond-true _ _ None (lt-ltb d P.dirs l) in
      elim (cases_eq (get_or P.neighbours i NO_CELL) NO_CELL) [
        | inl none ↦
            let z : entry_cell (get_or P.neighbours i NO_CELL) ≡ None = cond-true _ None (Some (get_or P.neighbours i NO_CELL)) (eq-eqb _ NO_CELL none) in
            cc
        | inr some ↦
            let z : entry_cell (get_or P.neighbours i NO_CELL) ≡ Some (get_or P.neighbours i NO_CELL) = cond-false _ None (Some (get_or P.neighbours i NO_CELL)) (ne_eqb _ NO_CELL some) in
            record {
              dir_in = l;
              inside = elim (cases_lt i (length P.neighbours)) [ inl m ↦ m | inr ge ↦ absurd (some (get_or_past P.neighbours i NO_CELL ge)) ];
              entry = cc;
            }
      ]
]

-- and the other way: an entry that is not none is the neighbour
pub neighbour_is : (P : Network) (c d : ℕ) → d < P.dirs → (get_or P.neighbours (c * P.dirs + d) NO_CELL ≡ NO_CELL → ⊥) → neighbour P c d ≡ Some (get_or P.neighbours (c * P.dirs + d) NO_CELL)
neighbour_is P c d l some =
    let entry = get_or P.neighbours (c * P.dirs + d) NO_CELL in
    cond-true _ (entry_cell entry) None (lt-ltb d P.dirs l) ∙ cond-false _ None (Some entry) (ne_eqb entry NO_CELL some)

-- the entries for what is beside a cell name its neighbours
pub beside_names : (P : Network) (c d : ℕ) → d < P.dirs → neighbour P c d ≡ entry_cell (get_or (beside P c) d NO_CELL)
beside_names P c d l =
    cond-true _ (entry_cell (get_or P.neighbours (c * P.dirs + d) NO_CELL)) None (lt-ltb d P.dirs l)
    ∙ ap entry_cell (sym (get_or-take P.dirs (drop (c * P.dirs) P.neighbours) d NO_CELL l ∙ get_or-drop (c * P.dirs) P.neighbours d NO_CELL))

-- there is one for each direction
pub beside_length : (P : Network) → IsProblem P → (c : ℕ) → c < P.cells → length (beside P c) ≡ P.dirs
beside_length P p c hc =
    let rows : suc c * P.dirs ≤ P.cells * P.dirs = mul-le-mul_right P.dirs hc in
    omega (arith, length-take P.dirs (drop (c * P.dirs) P.neighbours), length-drop (c * P.dirs) P.neighbours, p.sized.neighbours_table, rows)

-- in a direction that there is, a list of supports is what the table has
pub supports_at : (P : Network) (v d : ℕ) → d < P.dirs → supports_of P v d ≡ get_or P.supports (v * P.dirs + d) []
supports_at P v d l = cond-true _ (get_or P.supports (v * P.dirs + d) []) [] (lt-ltb d P.dirs l)

-- in others there are none
pub supports_past : (P : Network) (v d : ℕ) → P.dirs ≤ d → supports_of P v d ≡ []
supports_past P v d ge = cond-false _ (get_or P.supports (v * P.dirs + d) []) [] (le-ltb d P.dirs ge)

-- a list that has a support is one of a direction that there is, and stands in the table
pub supports_inside : (P : Network) (v d w : ℕ) → Contains (supports_of P v d) w → (d < P.dirs) × (v * P.dirs + d < length P.supports)
supports_inside P v d w has = elim (cases_lt d P.dirs) [
  | inr ge ↦ absurd (let none = ap length (supports_past P v d ge) in omega (arith, has.1))
  | inl l ↦ elim (cases_lt (v * P.dirs + d) (length P.supports)) [
    | inl m ↦ (l, m)
    | inr ge ↦ absurd (let none = ap length (supports_at P v d l ∙ get_or_past P.supports (v * P.dirs + d) [] ge) in omega (arith, has.1))
  ]
]

-- no neighbour is none
pub neighbour_not_none : (P : Network) (c d n : ℕ) → neighbour P c d ≡ Some n → n ≡ NO_CELL → ⊥
neighbour_not_none P c d n e none =
    let r = neighbour_read P c d n e in
    let entry = get_or P.neighbours (c * P.dirs + d) NO_CELL in
    let z : neighbour P c d ≡ None = cond-true _ (entry_cell entry) None (lt-ltb d P.dirs r.dir_in) ∙ cond-true _ None (Some entry) (eq-eqb entry NO_CELL (r.entry ∙ none)) in
    cc

-- a neighbour lies in a direction that there is
pub neighbour_dir : (P : Network) (c d n : ℕ) → neighbour P c d ≡ Some n → d < P.dirs
neighbour_dir P c d n e = (neighbour_read P c d n e).dir_in

-- ---- flags

-- a value's flag stands in its cell's row
pub flag_at : (n : ℕ) (flags : List Bool) (c v : ℕ) → v < n → has_flag n flags c v ≡ get_or flags (c * n + v) false
flag_at n flags c v l = get_or-take n (drop (c * n) flags) v false l ∙ get_or-drop (c * n) flags v false

-- there is no flag past a row
pub flag_past : (n : ℕ) (flags : List Bool) (c v : ℕ) → n ≤ v → has_flag n flags c v ≡ false
flag_past n flags c v ge = get_or_past (take n (drop (c * n) flags)) v false (omega (arith, length-take n (drop (c * n) flags)))

-- a flag that is set stands in the table
pub flag_inside : (n : ℕ) (flags : List Bool) (c v : ℕ) → has_flag n flags c v ≡ true → (v < n) × (c * n + v < length flags)
flag_inside n flags c v t = elim (cases_lt v n) [
  | inr ge ↦ absurd (false≢true (sym (flag_past n flags c v ge) ∙ t))
  | inl l ↦ elim (cases_lt (c * n + v) (length flags)) [
    | inl m ↦ (l, m)
    | inr ge ↦ absurd (false≢true (sym (get_or_past flags (c * n + v) false ge) ∙ sym (flag_at n flags c v l) ∙ t))
  ]
]

-- a base value is a value of a cell
pub base_inside : (P : Network) → IsProblem P → (c v : ℕ) → in_base P c v ≡ true → (c < P.cells) × (v < values P)
base_inside P p c v t =
    let i = flag_inside (values P) P.base c v t in
    (row_below c v (values P) P.cells (omega (arith, i.1, p.sized.base_table)), i.0)
