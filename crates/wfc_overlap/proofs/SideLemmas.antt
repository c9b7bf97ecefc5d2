-- What neighbouring windows share says whether they agree.
use Rattle.std.proofs.Common.{◌≡◌, ℕ, zero, suc, ◌+◌, ◌-◌, ◌*◌, ◌/◌, ◌%◌, ◌<◌, ◌≤◌, List, length, get_or, take, drop, map, length-take, length-drop, refl, sym, ap, ◌∙◌, arith, zero-add}
use Rattle.std.specs.Prelude.{nat_eq}
use Rattle.std.specs.List.{range_with_len}
use Rattle.std.specs.Cmp.Lexicographic.{pointwise}
use Rattle.std.proofs.lemmas.List.{ext_get_or, get_or-take, get_or-drop}
use Rattle.std.proofs.Math.Nat.{mul-le-mul_right}
use Rattle.std.proofs.lemmas.List.FromFn.{length-map-range_with_len, get_or-map-range_with_len, length-range_with_len, get_or-range_with_len}
use Rattle.wfc_lists.proofs.Tables.{length-table, table-at}
use Rattle.wfc_model.specs.Direction.{opposite, left_by, down_by, right_by, up_by}
use Rattle.wfc_model.specs.Image.{cell_at}
use Rattle.wfc_model.proofs.CallerLemmas.{cell_is, same_window-Decides}
use Rattle.wfc_pattern.specs.Agreement.{Agrees, agrees}
use Rattle.wfc_pattern.specs.Patterns.{PatternsView, window_at}
use Rattle.wfc_pattern.proofs.AgreementLemmas.{same_test}
use Rattle.wfc_overlap.specs.Sample.{agreeing_patterns}
use Rattle.wfc_overlap.specs.Sides.{IsGrouped, members, part, shared_part}
use Rattle.wfc_lists.proofs.Growing.{kept_same}
use Rattle.wfc_places.proofs.CallerLemmas.{one_across, one_down}

-- how many numbers a part has
length-part : (n : ℕ) (w : List ℕ) (left top columns rows : ℕ) → length (part n w left top columns rows) ≡ rows * columns
length-part n w left top columns rows =
    length-table (λ j. map (λ i. cell_at n w (left + i) (top + j)) (range_with_len 0 columns)) columns (λ j. length-map-range_with_len (λ i. cell_at n w (left + i) (top + j)) 0 columns) (range_with_len 0 rows)
    ∙ ap (λ k. k * columns) (length-range_with_len 0 rows)

-- the number in a column and a row of it
part-at : (n : ℕ) (w : List ℕ) (left top columns rows c r : ℕ) → c < columns → r < rows → get_or (part n w left top columns rows) (r * columns + c) 0 ≡ cell_at n w (left + c) (top + r)
part-at n w left top columns rows c r column row =
    table-at (λ j. map (λ i. cell_at n w (left + i) (top + j)) (range_with_len 0 columns)) columns (λ j. length-map-range_with_len (λ i. cell_at n w (left + i) (top + j)) 0 columns) (range_with_len 0 rows) r c 0 0
    (omega (arith, length-range_with_len 0 rows)) column
    ∙ ap (λ j. get_or (map (λ i. cell_at n w (left + i) (top + j)) (range_with_len 0 columns)) c 0) (get_or-range_with_len 0 rows r 0 row ∙ zero-add r)
    ∙ get_or-map-range_with_len (λ i. cell_at n w (left + i) (top + r)) 0 columns c c 0 column (zero-add c)

-- parts with the same numbers are the same
parts_same : (n : ℕ) (v w : List ℕ) (left top left' top' columns rows : ℕ) → ((c r : ℕ) → c < columns → r < rows → cell_at n v (left + c) (top + r) ≡ cell_at n w (left' + c) (top' + r))
    → part n v left top columns rows ≡ part n w left' top' columns rows
parts_same n v w left top left' top' columns rows same =
    ext_get_or 0 (part n v left top columns rows) (part n w left' top' columns rows) (length-part n v left top columns rows ∙ sym (length-part n w left' top' columns rows)) (λ k inside.
    let place = cell_is columns rows k (omega (arith, length-part n v left top columns rows)) in
    let c = k % columns in
    let r = k / columns in
    ap (λ m. get_or (part n v left top columns rows) m 0) (sym place.cell)
    ∙ part-at n v left top columns rows c r place.column place.row
    ∙ same c r place.column place.row
    ∙ sym (part-at n w left' top' columns rows c r place.column place.row)
    ∙ ap (λ m. get_or (part n w left' top' columns rows) m 0) place.cell)

module _ (n : ℕ) (p q : List ℕ) (d : ℕ) where
  abbrev columns : ℕ
  columns = n - (right_by d + left_by d)

  abbrev rows : ℕ
  rows = n - (down_by d + up_by d)

  -- p has on its side in the direction what q has on its other side
  abbrev Shares : Type 0
  Shares = part n p (right_by d) (down_by d) columns rows ≡ part n q (left_by d) (up_by d) columns rows

  agree_from : Shares → Agrees n p q d
  agree_from same i j a b i_in j_in a_in b_in step =
      let across = one_across d in
      let down = one_down d in
      let step_x = step.across in
      let step_y = step.down in
      let c = i - right_by d in
      let r = j - down_by d in
      let i_is : right_by d + c ≡ i = omega arith in
      let j_is : down_by d + r ≡ j = omega arith in
      let a_is : left_by d + c ≡ a = omega arith in
      let b_is : up_by d + r ≡ b = omega arith in
      let column : c < columns = omega arith in
      let row : r < rows = omega arith in
      ap (λ k. cell_at n p k j) (sym i_is) ∙ ap (λ k. cell_at n p (right_by d + c) k) (sym j_is)
      ∙ sym (part-at n p (right_by d) (down_by d) columns rows c r column row)
      ∙ ap (λ (ns : List ℕ). get_or ns (r * columns + c) 0) same
      ∙ part-at n q (left_by d) (up_by d) columns rows c r column row
      ∙ ap (λ k. cell_at n q k (up_by d + r)) a_is ∙ ap (λ k. cell_at n q a k) b_is

  shared_from : Agrees n p q d → Shares
  shared_from agree =
      let across = one_across d in
      let down = one_down d in
      parts_same n p q (right_by d) (down_by d) (left_by d) (up_by d) columns rows (λ c r column row.
      agree (right_by d + c) (down_by d + r) (left_by d + c) (up_by d + r) (omega arith) (omega arith) (omega arith) (omega arith) (record { across = omega arith; down = omega arith }))

-- the side that q has towards p
back_side : (n : ℕ) (q : List ℕ) (d : ℕ) → d < 4 → shared_part n q (opposite d) ≡ part n q (left_by d) (up_by d) (n - (right_by d + left_by d)) (n - (down_by d + up_by d))
back_side n q zero dir = refl
back_side n q (suc zero) dir = refl
back_side n q (suc (suc zero)) dir = refl
back_side n q (suc (suc (suc zero))) dir = refl
back_side n q (suc (suc (suc (suc d)))) dir = absurd (omega arith)

-- two patterns agree where they have the same numbers on the sides that they turn to each other
pub sides_agree : (n : ℕ) (p q : List ℕ) (d : ℕ) → d < 4 → pointwise nat_eq (shared_part n p d) (shared_part n q (opposite d)) ≡ agrees n p q d
sides_agree n p q d dir =
    let decides = same_window-Decides (shared_part n p d) (shared_part n q (opposite d)) in
    same_test n p q d (pointwise nat_eq (shared_part n p d) (shared_part n q (opposite d)))
    (λ test. agree_from n p q d (decides.0 test ∙ back_side n q d dir))
    (λ agree. decides.1 (shared_from n p q d agree ∙ sym (back_side n q d dir)))

-- the members of a pattern's side are the patterns that agree with it
pub members_agree : (patterns : PatternsView) (groups : List (List ℕ × List ℕ)) (p d : ℕ) → d < 4 → IsGrouped patterns (opposite d) groups → members groups (shared_part patterns.n (window_at patterns p) d) ≡ agreeing_patterns patterns p d
members_agree patterns groups p d dir grouped =
    grouped (shared_part patterns.n (window_at patterns p) d)
    ∙ kept_same (λ q. pointwise nat_eq (shared_part patterns.n (window_at patterns p) d) (shared_part patterns.n (window_at patterns q) (opposite d))) (λ q. agrees patterns.n (window_at patterns p) (window_at patterns q) d)
    (λ q. sides_agree patterns.n (window_at patterns p) (window_at patterns q) d dir) (range_with_len 0 (length patterns.windows))

-- ---- a part, cut out row by row

-- a row of a part lies within the window
pub inside_part : (n left top columns rows row : ℕ) → left + columns ≤ n → top + rows ≤ n → row < rows → (top + row) * n + left + columns ≤ n * n
inside_part n left top columns rows row across down inside =
    let more : (top + row + 1) * n ≤ n * n = mul-le-mul_right n (omega arith) in
    let next : (top + row + 1) * n ≡ (top + row) * n + n = omega arith in
    omega arith

-- and is these numbers of it
pub part_row : (n : ℕ) (w : List ℕ) (left top columns row start m : ℕ) → start ≡ (top + row) * n + left → m ≡ columns → start + columns ≤ length w
    → take m (drop start w) ≡ map (λ i. cell_at n w (left + i) (top + row)) (range_with_len 0 columns)
part_row n w left top columns row start m begins many inside =
    let long : length (take m (drop start w)) ≡ columns = omega (arith, length-take m (drop start w), length-drop start w) in
    ext_get_or 0 (take m (drop start w)) (map (λ i. cell_at n w (left + i) (top + row)) (range_with_len 0 columns)) (long ∙ sym (length-map-range_with_len (λ i. cell_at n w (left + i) (top + row)) 0 columns)) (λ k below.
    let at : k < m = omega arith in
    let here : start + k ≡ (top + row) * n + (left + k) = omega arith in
    get_or-take m (drop start w) k 0 at ∙ get_or-drop start w k 0 ∙ ap (λ p. get_or w p 0) here
    ∙ sym (get_or-map-range_with_len (λ i. cell_at n w (left + i) (top + row)) 0 columns k k 0 (omega arith) (zero-add k)))
