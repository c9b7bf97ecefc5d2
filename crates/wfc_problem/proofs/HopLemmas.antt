-- What hops say, and how they are made of a table of neighbours.
use Rattle.std.proofs.Common.{◌≡◌, ◌≢◌, ℕ, zero, suc, ◌+◌, ◌-◌, ◌*◌, ◌/◌, ◌%◌, ◌^◌, ◌<◌, ◌≤◌, List, [], ◌∷◌, ◌++◌, length, get_or, take, drop, map, refl, sym, ◌∙◌, ap, subst, arith, Some, None, inl, inr, ◌⊎◌, length-append, All}
use Rattle.std.specs.Prelude.{◌==◌, slice_index, slice_set}
use Rattle.std.specs.List.{flat_map, range_with_len}
use Rattle.std.proofs.lemmas.Bool.{cases_lt, cases_eq, cond-true, cond-false, eq-eqb, ne_eqb}
use Rattle.std.proofs.lemmas.List.{length-map, length-take, length-drop, get_or-map, get_or-take, get_or-drop, take-append-le, drop-append-le, take_all, take-append-drop, drop-drop, ext_get_or, get_or_default, get_or_append_left, get_or-append-add, get_or-set_same, get_or-set_other, length-set, length_push}
use Rattle.std.proofs.Math.Seq.{take-append_seam, drop-append-add, take-add}
use Rattle.std.proofs.Math.Nat.{mul-le-mul_right, mod-add-div', mod-lt}
use Rattle.wfc_lists.proofs.Rows.{rows_same}
use Rattle.wfc_problem.specs.declared.TheConstants.{MAX_PAIRS, NO_CELL, NO_HOP}
use Rattle.wfc_problem.specs.Network.{Network, neighbour, entry_cell, beside, IsProblem}
use Rattle.wfc_problem.specs.Hops.{hop_cell, hop_entry, table_row, hops_row, hops_table, IsHopsRow, AreHops}
use Rattle.wfc_problem.specs.HopsMade.{hop_of, IsEntry, AreHopsAt, AreTurned, AreKinds}
use Rattle.wfc_problem.proofs.Tables.{beside_length, beside_names, neighbour_is}

-- ---- one hop

-- the number that is added, cut to 32 bits, leads to the cell, and is not that of none
there : (c e : ℕ) → c < 8388608 → e < 8388608 → ((c + (e + 4294967296 - c) % 4294967296) % 4294967296 ≡ e) × ((e + 4294967296 - c) % 4294967296 ≢ 2147483648)
there c e hc he = elim (cases_lt e c) [
  | inl l ↦ (omega arith, λ z. omega arith)
  | inr l ↦ (omega arith, λ z. omega arith)
]

-- the hop that an entry asks for says that entry
pub hop_entry_is : (c e : ℕ) → c < MAX_PAIRS → IsEntry e → hop_entry c (hop_of c e) ≡ e
hop_entry_is c e hc (inl none) =
    ap (hop_entry c) (cond-true (e == NO_CELL) NO_HOP ((e + 2 ^ 32 - c) % 2 ^ 32) (eq-eqb e NO_CELL none)) ∙ sym none
hop_entry_is c e hc (inr some) =
    let h = (e + 2 ^ 32 - c) % 2 ^ 32 in
    let is : hop_of c e ≡ h = cond-false _ NO_HOP h (ne_eqb e NO_CELL (λ z. omega arith)) in
    ap (hop_entry c) is ∙ cond-false _ NO_CELL ((c + h) % 2 ^ 32) (ne_eqb h NO_HOP (there c e hc some).1) ∙ (there c e hc some).0

-- and the cell that it names
pub hop_cell_is : (c e : ℕ) → c < MAX_PAIRS → IsEntry e → hop_cell c (hop_of c e) ≡ entry_cell e
hop_cell_is c e hc (inl none) =
    ap (hop_cell c) (cond-true (e == NO_CELL) NO_HOP ((e + 2 ^ 32 - c) % 2 ^ 32) (eq-eqb e NO_CELL none)) ∙ sym (cond-true _ None (Some e) (eq-eqb e NO_CELL none))
hop_cell_is c e hc (inr some) =
    let h = (e + 2 ^ 32 - c) % 2 ^ 32 in
    let is : hop_of c e ≡ h = cond-false _ NO_HOP h (ne_eqb e NO_CELL (λ z. omega arith)) in
    ap (hop_cell c) is
    ∙ cond-false _ None (Some ((c + h) % 2 ^ 32)) (ne_eqb h NO_HOP (there c e hc some).1)
    ∙ ap (λ (n : ℕ). Some n) (there c e hc some).0
    ∙ sym (cond-false _ None (Some e) (ne_eqb e NO_CELL (λ z. omega arith)))

-- ---- rows

-- a row of rows that are joined
joined_row : (g : ℕ → List ℕ) (k a n i : ℕ) → ((c : ℕ) → a ≤ c → c < a + n → length (g c) ≡ k) → i < n → table_row k (flat_map g (range_with_len a n)) i ≡ g (a + i)
joined_row g k a zero i long l = absurd (omega arith)
joined_row g k a (suc n) zero long l =
    let rest = flat_map g (range_with_len (a + 1) n) in
    let first : length (g a) ≡ k = long a (omega arith) (omega arith) in
    let none : 0 * k ≡ 0 = omega arith in
    ap (λ m. take k (drop m (g a ++ rest))) none
    ∙ ap (λ m. take m (g a ++ rest)) (sym first)
    ∙ take-append_seam (g a) rest
    ∙ ap g (omega arith)
joined_row g k a (suc n) (suc i) long l =
    let rest = flat_map g (range_with_len (a + 1) n) in
    let first : length (g a) ≡ k = long a (omega arith) (omega arith) in
    let next : suc i * k ≡ length (g a) + i * k = omega (arith, first) in
    ap (λ m. take k (drop m (g a ++ rest))) next
    ∙ ap (take k) (drop-append-add (g a) rest (i * k))
    ∙ joined_row g k (a + 1) n i (λ c low high. long c (omega arith) (omega arith)) (omega arith)
    ∙ ap g (omega arith)

-- how many entries joined rows have
joined_length : (g : ℕ → List ℕ) (k a n : ℕ) → ((c : ℕ) → a ≤ c → c < a + n → length (g c) ≡ k) → length (flat_map g (range_with_len a n)) ≡ n * k
joined_length g k a zero long = omega arith
joined_length g k a (suc n) long =
    let more = joined_length g k (a + 1) n (λ c low high. long c (omega arith) (omega arith)) in
    let first : length (g a) ≡ k = long a (omega arith) (omega arith) in
    let next : suc n * k ≡ k + n * k = omega arith in
    omega (arith, length-append (g a) (flat_map g (range_with_len (a + 1) n)), first, more, next)

-- the rows of a table, joined
rows_joined : (k a n : ℕ) (xs : List ℕ) → flat_map (table_row k xs) (range_with_len a n) ≡ take (n * k) (drop (a * k) xs)
rows_joined k a zero xs = ap (λ m. take m (drop (a * k) xs)) (let none : 0 ≡ 0 * k = omega arith in none)
rows_joined k a (suc n) xs =
    let more : (a + 1) * k ≡ a * k + k = omega arith in
    let next : k + n * k ≡ suc n * k = omega arith in
    ap (λ t. table_row k xs a ++ t) (rows_joined k (a + 1) n xs)
    ∙ ap (λ m. take k (drop (a * k) xs) ++ take (n * k) (drop m xs)) more
    ∙ ap (λ ys. take k (drop (a * k) xs) ++ take (n * k) ys) (sym (drop-drop k (a * k) xs))
    ∙ sym (take-add k (n * k) (drop (a * k) xs))
    ∙ ap (λ m. take m (drop (a * k) xs)) next

-- a row of a whole table
pub row_length : (dirs : ℕ) (table : List ℕ) (c cells : ℕ) → length table ≡ cells * dirs → c < cells → length (table_row dirs table c) ≡ dirs
row_length dirs table c cells e l =
    let le : suc c * dirs ≤ cells * dirs = mul-le-mul_right dirs l in
    omega (arith, length-take dirs (drop (c * dirs) table), length-drop (c * dirs) table)

-- and an entry of it
row_at : (dirs : ℕ) (table : List ℕ) (c d : ℕ) → d < dirs → slice_index (table_row dirs table c) d ≡ slice_index table (c * dirs + d)
row_at dirs table c d l = get_or-take dirs (drop (c * dirs) table) d 0 l ∙ get_or-drop (c * dirs) table d 0

-- ---- what hops say

-- the entries of a cell are those of its row of hops
pub hops_beside : (cells dirs : ℕ) (kinds rows : List ℕ) (c : ℕ) → AreHops cells dirs kinds rows → c < cells → table_row dirs (hops_table cells dirs kinds rows) c ≡ map (hop_entry c) (hops_row dirs kinds rows c)
hops_beside cells dirs kinds rows c h l =
    joined_row (λ k. map (hop_entry k) (hops_row dirs kinds rows k)) dirs 0 cells c
    (λ k low high. length-map (hops_row dirs kinds rows k) (hop_entry k) ∙ (h.each k (omega arith)).long) l
    ∙ ap (λ k. map (hop_entry k) (hops_row dirs kinds rows k)) (let e : 0 + c ≡ c = omega arith in e)

-- the cells of a row of hops are those of the entries
pub hops_named : (cells dirs : ℕ) (kinds rows : List ℕ) (c : ℕ) → AreHops cells dirs kinds rows → c < cells → map (hop_cell c) (hops_row dirs kinds rows c) ≡ map entry_cell (table_row dirs (hops_table cells dirs kinds rows) c)
hops_named cells dirs kinds rows c h l = (h.each c l).named ∙ ap (map entry_cell) (sym (hops_beside cells dirs kinds rows c h l))

-- ---- hops made of a table

-- one more entry became a hop
pub hops_at_more : (old now next : List ℕ) (start dir c at : ℕ) → AreHopsAt old now start dir c → at ≡ start + dir → at < length old → next ≡ slice_set now at (hop_of c (slice_index now at)) → AreHopsAt old next start (dir + 1) c
hops_at_more old now next start dir c at h is inside e =
    let x = hop_of c (slice_index now at) in
    let room : at < length now = omega (arith, h.long) in
    let other : (i : ℕ) → i ≢ at → slice_index next i ≡ slice_index now i = λ i ne. ap (λ xs. slice_index xs i) e ∙ get_or-set_other now at i x 0 ne in
    record {
      long = ap length e ∙ length-set now at x ∙ h.long;
      changed = λ d l. elim (cases_eq d dir) [
        | inl same ↦
            let here : start + d ≡ at = omega arith in
            ap (slice_index next) here ∙ ap (λ xs. slice_index xs at) e ∙ get_or-set_same now at x 0 room
            ∙ ap (hop_of c) (h.behind at (omega arith)) ∙ ap (λ i. hop_of c (slice_index old i)) (sym here)
        | inr ne ↦ other (start + d) (λ z. ne (omega arith)) ∙ h.changed d (omega arith)
      ];
      before = λ i l. other i (λ z. omega arith) ∙ h.before i l;
      behind = λ i l. other i (λ z. omega arith) ∙ h.behind i (omega arith);
    }

-- one more row became hops
pub turned_more : (old now next : List ℕ) (dirs c : ℕ) → AreTurned old now dirs c → AreHopsAt now next (c * dirs) dirs c → AreTurned old next dirs (c + 1)
turned_more old now next dirs c h s = record {
  long = s.long ∙ h.long;
  turned = λ k d l m. elim (cases_eq k c) [
    | inl same ↦
        subst (λ j. slice_index next (j * dirs + d) ≡ hop_of j (slice_index old (j * dirs + d))) (sym same)
        (s.changed d m ∙ ap (hop_of c) (h.behind (c * dirs + d) (omega arith)))
    | inr ne ↦
        let le : suc k * dirs ≤ c * dirs = mul-le-mul_right dirs (let z : k < c = omega arith in z) in
        s.before (k * dirs + d) (omega arith) ∙ h.turned k d (omega arith) m
  ];
  behind = λ i l.
      let le : (c + 1) * dirs ≡ c * dirs + dirs = omega arith in
      s.behind i (omega arith) ∙ h.behind i (omega arith);
}

-- the rows of what became hops are the hops of the table
turned_row : (old new : List ℕ) (dirs cells c : ℕ) → AreTurned old new dirs cells → length old ≡ cells * dirs → c < cells → table_row dirs new c ≡ map (hop_of c) (table_row dirs old c)
turned_row old new dirs cells c t e l =
    let row = table_row dirs new c in
    let was = table_row dirs old c in
    let long : length row ≡ dirs = row_length dirs new c cells (t.long ∙ e) l in
    let long_was : length was ≡ dirs = row_length dirs old c cells e l in
    ext_get_or 0 row (map (hop_of c) was) (long ∙ sym long_was ∙ sym (length-map was (hop_of c)))
    (λ d m.
    let inside : d < dirs = omega (arith, m, long) in
    row_at dirs new c d inside ∙ t.turned c d l inside ∙ ap (hop_of c) (sym (row_at dirs old c d inside))
    ∙ sym (get_or-map (hop_of c) was d 0 0 (omega (arith, long_was))))

-- the hops of entries say these
row_says : (c : ℕ) (row : List ℕ) → c < MAX_PAIRS → All IsEntry row → (map (hop_entry c) (map (hop_of c) row) ≡ row) × (map (hop_cell c) (map (hop_of c) row) ≡ map entry_cell row)
row_says c [] small all = (refl, refl)
row_says c (x ∷ xs) small all =
    let entry : IsEntry x = all 0 0 (omega arith) in
    let more = row_says c xs small (λ k d l. all (suc k) d (omega arith)) in (
      ap (λ y. y ∷ map (hop_entry c) (map (hop_of c) xs)) (hop_entry_is c x small entry) ∙ ap (λ ys. x ∷ ys) more.0,
      ap (λ y. y ∷ map (hop_cell c) (map (hop_of c) xs)) (hop_cell_is c x small entry) ∙ ap (λ ys. entry_cell x ∷ ys) more.1,
    )

-- the entries of a row are those of its table
row_entries : (dirs : ℕ) (table : List ℕ) (c cells : ℕ) → length table ≡ cells * dirs → All IsEntry table → c < cells → All IsEntry (table_row dirs table c)
row_entries dirs table c cells e all l k d m =
    let le : suc c * dirs ≤ cells * dirs = mul-le-mul_right dirs l in
    let row = table_row dirs table c in
    let inside : k < dirs = omega (arith, m, row_length dirs table c cells e l) in
    subst IsEntry (sym (get_or_default row k d 0 m ∙ row_at dirs table c k inside)) (all (c * dirs + k) 0 (omega arith))

-- what rows of hops say, where each cell has its own among them
pub record SaysTable (table : List ℕ) (cells dirs : ℕ) (kinds rows : List ℕ) : Type 0 where
  pub hops : AreHops cells dirs kinds rows
  pub entries : hops_table cells dirs kinds rows ≡ table

says_table : (table : List ℕ) (dirs cells : ℕ) (kinds rows : List ℕ) → length table ≡ cells * dirs → cells ≤ MAX_PAIRS → All IsEntry table
    → (kinds ≡ []) ⊎ (length kinds ≡ cells) → ((c : ℕ) → c < cells → hops_row dirs kinds rows c ≡ map (hop_of c) (table_row dirs table c)) → SaysTable table cells dirs kinds rows
says_table table dirs cells kinds rows e few all some_or_none own = record {
  hops = record {
    some_or_none = some_or_none;
    each = λ c l.
        let row = table_row dirs table c in
        let says = row_says c row (omega arith) (row_entries dirs table c cells e all l) in
        subst (λ hops. IsHopsRow dirs hops c) (sym (own c l)) (record {
          long = length-map row (hop_of c) ∙ row_length dirs table c cells e l;
          named = says.1 ∙ ap (map entry_cell) (sym says.0);
        });
  };
  entries =
      rows_same (λ c. map (hop_entry c) (hops_row dirs kinds rows c)) (table_row dirs table) 0 cells
      (λ c low high.
      let l : c < cells = omega arith in
      ap (map (hop_entry c)) (own c l) ∙ (row_says c (table_row dirs table c) (omega arith) (row_entries dirs table c cells e all l)).0)
      ∙ rows_joined dirs 0 cells table
      ∙ ap (λ m. take (cells * dirs) (drop m table)) (let none : 0 * dirs ≡ 0 = omega arith in none)
      ∙ take_all (cells * dirs) table (omega (arith, e));
}

-- where each keeps its row
pub own_rows : (old new : List ℕ) (dirs cells : ℕ) → AreTurned old new dirs cells → length old ≡ cells * dirs → cells ≤ MAX_PAIRS → All IsEntry old → SaysTable old cells dirs [] new
own_rows old new dirs cells t e few all = says_table old dirs cells [] new e few all (inl refl) (λ c l. turned_row old new dirs cells c t e l)

-- where each has a kind
pub kind_rows : (table : List ℕ) (dirs cells : ℕ) (kinds rows : List ℕ) → length table ≡ cells * dirs → cells ≤ MAX_PAIRS → All IsEntry table → AreKinds dirs table cells kinds rows
    → SaysTable table cells dirs kinds rows
kind_rows table dirs cells kinds rows e few all k =
    says_table table dirs cells kinds rows e few all (inr k.so_many)
    (λ c l. ap (table_row dirs rows) (get_or_default kinds c c 0 (omega (arith, k.so_many, l))) ∙ k.same c l)

-- ---- kinds

-- a row that stands in a table stands in a longer one
row_stays : (dirs : ℕ) (rows more : List ℕ) (k : ℕ) → 0 < dirs → length (table_row dirs rows k) ≡ dirs → take (length rows) more ≡ rows → table_row dirs more k ≡ table_row dirs rows k
row_stays dirs rows more k some long e =
    let split : more ≡ rows ++ drop (length rows) more = sym (take-append-drop (length rows) more) ∙ ap (λ xs. xs ++ drop (length rows) more) e in
    let room : k * dirs + dirs ≤ length rows = omega (arith, length-take dirs (drop (k * dirs) rows), length-drop (k * dirs) rows, long) in
    ap (λ xs. table_row dirs xs k) split
    ∙ ap (take dirs) (drop-append-le (k * dirs) rows (drop (length rows) more) (omega arith))
    ∙ take-append-le dirs (drop (k * dirs) rows) (drop (length rows) more) (omega (arith, length-drop (k * dirs) rows))

-- one more cell has its kind
pub kinds_more : (dirs : ℕ) (table : List ℕ) (cells n : ℕ) (kinds rows kinds' rows' : List ℕ) (k : ℕ) → 0 < dirs → length table ≡ cells * dirs → n < cells → AreKinds dirs table n kinds rows
    → take (length rows) rows' ≡ rows → table_row dirs rows' k ≡ map (hop_of n) (table_row dirs table n) → kinds' ≡ kinds ++ k ∷ [] → AreKinds dirs table (n + 1) kinds' rows'
kinds_more dirs table cells n kinds rows kinds' rows' k some e l h stay row is = record {
  so_many = ap length is ∙ length_push kinds k ∙ ap (λ m. m + 1) h.so_many;
  same = λ c m. elim (cases_eq c n) [
    | inl same ↦
        let at : slice_index kinds' c ≡ k =
        ap (λ xs. slice_index xs c) is ∙ ap (λ i. slice_index (kinds ++ k ∷ []) i) (let z : c ≡ length kinds + 0 = omega (arith, h.so_many) in z) ∙ get_or-append-add kinds (k ∷ []) 0 0 in
        ap (table_row dirs rows') at ∙ row ∙ ap (λ m. map (hop_of m) (table_row dirs table m)) (sym same)
    | inr ne ↦
        let before : c < n = omega arith in
        let at : slice_index kinds' c ≡ slice_index kinds c = ap (λ xs. slice_index xs c) is ∙ get_or_append_left kinds (k ∷ []) 0 c (omega (arith, h.so_many)) in
        let was = h.same c before in
        ap (table_row dirs rows') at
        ∙ row_stays dirs rows rows' (slice_index kinds c) some (ap length was ∙ length-map (table_row dirs table c) (hop_of c) ∙ row_length dirs table c cells e (omega arith)) stay
        ∙ was
  ];
}

-- ---- for readers

-- there is a hop for each direction
pub hops_length : (P : Network) → IsProblem P → (c : ℕ) (hops : List ℕ) → c < P.cells → map (hop_cell c) hops ≡ map entry_cell (beside P c) → length hops ≡ P.dirs
hops_length P p c hops hc e = sym (length-map hops (hop_cell c)) ∙ ap length e ∙ length-map (beside P c) entry_cell ∙ beside_length P p c hc

-- the neighbour in a direction is the cell of its hop
pub hop_names : (P : Network) → IsProblem P → (c d : ℕ) (hops : List ℕ) → c < P.cells → d < P.dirs → map (hop_cell c) hops ≡ map entry_cell (beside P c) → neighbour P c d ≡ hop_cell c (slice_index hops d)
hop_names P p c d hops hc hd e =
    let long = hops_length P p c hops hc e in
    beside_names P c d hd
    ∙ sym (get_or-map entry_cell (beside P c) d NO_CELL None (omega (arith, beside_length P p c hc, hd)))
    ∙ ap (λ xs. get_or xs d None) (sym e)
    ∙ get_or-map (hop_cell c) hops d 0 None (omega (arith, long, hd))

-- ---- a problem's table

-- each entry of it names a cell, or none
pub all_entries : (P : Network) → IsProblem P → All IsEntry P.neighbours
all_entries P p k d l =
    let c = k / P.dirs in
    let e = k % P.dirs in
    let some : 0 < P.dirs = elim p.sized.four_or_six [ inl z ↦ omega arith | inr z ↦ omega arith ] in
    let at : c * P.dirs + e ≡ k = let z = mod-add-div' k P.dirs in omega arith in
    let inside : e < P.dirs = mod-lt k some in
    let entry = get_or P.neighbours k NO_CELL in
    let same : get_or P.neighbours k d ≡ entry = get_or_default P.neighbours k d NO_CELL l in
    elim (cases_eq entry NO_CELL) [
      | inl none ↦ inl (same ∙ none)
      | inr ne ↦
          let here : get_or P.neighbours (c * P.dirs + e) NO_CELL ≡ entry = ap (λ i. get_or P.neighbours i NO_CELL) at in
          let named = neighbour_is P c e inside (λ z. ne (sym here ∙ z)) in
          inr (let below = p.indexed.in_cells c e _ named in omega (arith, below, here, same, p.sized.few_cells))
    ]
