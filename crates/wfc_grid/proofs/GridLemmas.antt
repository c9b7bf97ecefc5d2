-- The grid that lines without a fault make, and the lines of a text that spells a grid.
use Rattle.std.proofs.Common.{◌/◌, ◌≡◌, ℕ, ◌+◌, ◌*◌, ◌<◌, ◌≤◌, List, [], ◌∷◌, length, ◌==◌, None, Some, refl, sym, ap, ◌∙◌, subst, inl, inr, zero, suc, Bool, Option, if◌then◌else◌, true, false, nat_lt, length-append, arith, Ok, Err, Result}
use Rattle.std.proofs.Math.Nat.{mul-div_cancel_left}
use Rattle.std.proofs.lemmas.Bool.{ltb-false}
use Rattle.std.proofs.lemmas.Bool.Decides.{nat_tests}
use Rattle.std.proofs.lemmas.List.{get_or_append_left, get_or-append-add, length-map}
use Rattle.std.proofs.lemmas.List.Elements.{All-append, All-from_recursion, recursion_from_All}
use Rattle.std.specs.List.{AllPass, AllByRecursion, concat}
use Rattle.std.specs.Option.{option_or}
use Rattle.wfc_model.specs.Raster.{Raster, IsSized}
use Rattle.wfc_model.proofs.CallerLemmas.{IsSized-raster_of, numbers_of-raster_of, raster_of-numbers_of, length-joined, height-raster_of}
use Rattle.wfc_text.specs.Line.{LineView, lines_of}
use Rattle.wfc_grid.specs.Grid.{GridView, IsGrid, is_grid_byte, raster_of_grid}
use Rattle.wfc_grid.specs.Reading.{grid_of, rows_grid, unless_fault}
use Rattle.wfc_grid.specs.Spelling.{SpellsRows, SpellsGrid, grid_text}
use Rattle.wfc_grid.specs.Fault.{rows_of, grid_bytes, width_of, first_fault, size_fault, grid_fault_of}
use Rattle.wfc_grid.specs.declared.reading.GridFault.{GridFault}
use Rattle.wfc_grid.specs.declared.reading.GridFault.TheVariants.{Empty, TooLarge}
use Rattle.wfc_grid.proofs.SpellingLemmas.{IsRow, rows_of-spelled, lines-spell}
use Rattle.wfc_grid.proofs.FaultLemmas.{Fits, rows-fit, first_fault-fit}
use Rattle.wfc_lists.proofs.Options.{both_none}

-- rows that fit have one length
long_rows : (width : ℕ) (rows : List (List ℕ)) → AllByRecursion (Fits width) rows → AllByRecursion (λ (row : List ℕ). length row ≡ width) rows
long_rows width [] fit = tt
long_rows width (row ∷ rows) fit = (fit.0.long, long_rows width rows fit.1)

-- rows that fit are a picture
sized_rows : (width : ℕ) (rows : List (List ℕ)) → 0 < width → 0 < length rows → AllByRecursion (Fits width) rows → IsSized (record { width = width; rows = rows }) width (length rows)
sized_rows width rows wide high fit = record {
  raster = record { some_column = wide; some_row = high; rows_fit = All-from_recursion (λ (row : List ℕ). length row ≡ width) rows (long_rows width rows fit) };
  same_width = refl;
  same_height = refl;
}

-- what holds of each byte of each row holds of each byte, and the other way round
printable_cells : (width : ℕ) (rows : List (List ℕ)) → AllByRecursion (Fits width) rows → AllPass is_grid_byte (concat rows)
printable_cells width [] fit = λ k d inside. absurd (omega arith)
printable_cells width (row ∷ rows) fit = All-append (λ b. is_grid_byte b ≡ true) row (concat rows) fit.0.printable (printable_cells width rows fit.1)

fit_rows : (width : ℕ) (rows : List (List ℕ)) → AllByRecursion (λ (row : List ℕ). length row ≡ width) rows → AllPass is_grid_byte (concat rows) → AllByRecursion (Fits width) rows
fit_rows width [] long printable = tt
fit_rows width (row ∷ rows) long printable = (
  record { long = long.0; printable = λ k d inside. rw (get_or_append_left row (concat rows) d k inside) at (printable k d (omega (arith, length-append row (concat rows)))) },
  fit_rows width rows long.1 (λ k d inside. rw (get_or-append-add row (concat rows) k d) at (printable (length row + k) d (omega (arith, length-append row (concat rows))))),
)

-- the rows of the grid that rows make are these rows
rows-rows_grid : (width : ℕ) (rows : List (List ℕ)) → 0 < width → 0 < length rows → AllByRecursion (Fits width) rows → (raster_of_grid (rows_grid width rows)).rows ≡ rows
rows-rows_grid width rows wide high fit = ap (λ (m : Raster). m.rows) (raster_of-numbers_of (record { width = width; rows = rows }) width (length rows) (sized_rows width rows wide high fit))

-- rows that fit make a grid
IsGrid-rows_grid : (width : ℕ) (rows : List (List ℕ)) → 0 < width → 0 < length rows → AllByRecursion (Fits width) rows → IsGrid (rows_grid width rows)
IsGrid-rows_grid width rows wide high fit = record {
  filled = record { some_column = wide; some_row = high; as_many = length-joined width rows (long_rows width rows fit) };
  printable = printable_cells width rows fit;
}

-- a line that has a byte is a line
some_line : (lines : List LineView) → 0 < width_of lines → 0 < length lines
some_line [] wide = absurd (omega arith)
some_line (line ∷ lines) wide = omega arith

-- a text whose lines have no fault spells the grid that they make
pub right-spells : (text : List ℕ) (width : ℕ) → 0 < width → width ≡ width_of (lines_of text) → first_fault width (lines_of text) ≡ None → SpellsGrid text (rows_grid width (rows_of (lines_of text)))
right-spells text width wide first none =
    let some : 0 < length (lines_of text) = some_line (lines_of text) (omega arith) in
    let high : 0 < length (rows_of (lines_of text)) = omega (arith, some, length-map (lines_of text) (λ (line : LineView). line.bytes)) in
    let fit = rows-fit width (lines_of text) none in
    record {
      grid = IsGrid-rows_grid width (rows_of (lines_of text)) wide high fit;
      rows = subst (SpellsRows text) (sym (rows-rows_grid width (rows_of (lines_of text)) wide high fit)) (lines-spell 1 text some);
    }

-- the bytes of a grid are its rows, joined
joined_rows : (g : GridView) → IsGrid g → concat (raster_of_grid g).rows ≡ g.bytes
joined_rows g is = numbers_of-raster_of g.width g.height g.bytes is.filled.as_many

-- the rows of a grid fit
grid_rows : (g : GridView) → IsGrid g → AllByRecursion (Fits g.width) (raster_of_grid g).rows
grid_rows g is =
    let sized : IsSized (raster_of_grid g) g.width g.height = IsSized-raster_of g.width g.height g.bytes is.filled in
    fit_rows g.width (raster_of_grid g).rows
    (recursion_from_All (λ (row : List ℕ). length row ≡ g.width) (raster_of_grid g).rows sized.raster.rows_fit)
    (subst (AllPass is_grid_byte) (sym (joined_rows g is)) is.printable)

some_rows : (width : ℕ) (rows : List (List ℕ)) → 0 < width → AllByRecursion (Fits width) rows → AllByRecursion IsRow rows
some_rows width [] wide fit = tt
some_rows width (row ∷ rows) wide fit = (record { some = omega (arith, fit.0.long); printable = fit.0.printable }, some_rows width rows wide fit.1)

-- the lines of a text that spells a grid are its rows
pub spelled_rows : (text : List ℕ) (g : GridView) → SpellsGrid text g → rows_of (lines_of text) ≡ (raster_of_grid g).rows
spelled_rows text g spelled = rows_of-spelled 1 text (raster_of_grid g).rows (some_rows g.width (raster_of_grid g).rows spelled.grid.filled.some_column (grid_rows g spelled.grid)) spelled.rows

-- where the lines are rows that fit, the first one is so wide
wide_lines : (width : ℕ) (lines : List LineView) → 0 < length (rows_of lines) → AllByRecursion (Fits width) (rows_of lines) → width_of lines ≡ width
wide_lines width [] high fit = absurd (omega arith)
wide_lines width (line ∷ lines) high fit = fit.0.long

-- what the lines of a text that spells a grid are
pub record AreLinesOf (lines : List LineView) (g : GridView) : Type 0 where
  pub width : width_of lines ≡ g.width
  pub right : first_fault g.width lines ≡ None
  pub cells : grid_bytes lines ≡ g.bytes
  pub height : length (rows_of lines) ≡ g.height

pub spelled-lines : (text : List ℕ) (g : GridView) → SpellsGrid text g → AreLinesOf (lines_of text) g
spelled-lines text g spelled =
    let rows = spelled_rows text g spelled in
    let fit : AllByRecursion (Fits g.width) (rows_of (lines_of text)) = subst (AllByRecursion (Fits g.width)) (sym rows) (grid_rows g spelled.grid) in
    let high : length (rows_of (lines_of text)) ≡ g.height = ap length rows ∙ height-raster_of g.width g.height g.bytes in
    record {
      width = wide_lines g.width (lines_of text) (omega (arith, high, spelled.grid.filled.some_row)) fit;
      right = first_fault-fit g.width (lines_of text) fit;
      cells = ap concat rows ∙ joined_rows g spelled.grid;
      height = high;
    }

-- a text without a line, or whose first line is empty, is empty
pub empty_fault : (lines : List LineView) → width_of lines ≡ 0 → grid_fault_of lines ≡ Some Empty
empty_fault lines none = rw none refl

-- the first fault of a line is that of the text
pub line_fault_first : (lines : List LineView) (fault : GridFault) → 0 < width_of lines → first_fault (width_of lines) lines ≡ Some fault → grid_fault_of lines ≡ Some fault
line_fault_first lines fault wide first = let test : (width_of lines == 0) ≡ false = grind (arith, nat_tests) in rw (test, first) refl

-- where only the size is wrong, it is the fault
pub large_fault : (lines : List LineView) → 0 < width_of lines → first_fault (width_of lines) lines ≡ None → 1048576 < length (grid_bytes lines) → grid_fault_of lines ≡ Some TooLarge
large_fault lines wide right large =
    let test : (width_of lines == 0) ≡ false = grind (arith, nat_tests) in
    let size : nat_lt 1048576 (length (grid_bytes lines)) ≡ true = grind (arith, nat_tests) in
    rw (test, right, size) refl

-- where nothing is wrong there is no fault
pub no_fault : (lines : List LineView) → 0 < width_of lines → first_fault (width_of lines) lines ≡ None → length (grid_bytes lines) ≤ 1048576 → grid_fault_of lines ≡ None
no_fault lines wide right small =
    let test : (width_of lines == 0) ≡ false = grind (arith, nat_tests) in
    let size : nat_lt 1048576 (length (grid_bytes lines)) ≡ false = grind (arith, nat_tests) in
    rw (test, right, size) refl

-- a text that spells a grid within the limit has no fault
pub spelled-right : (text : List ℕ) (g : GridView) → SpellsGrid text g → g.width * g.height ≤ 1048576 → grid_fault_of (lines_of text) ≡ None
spelled-right text g spelled within =
    let are = spelled-lines text g spelled in
    no_fault (lines_of text) (omega (arith, are.width, spelled.grid.filled.some_column)) (rw are.width are.right) (omega (arith, ap length are.cells, spelled.grid.filled.as_many))

-- what holds where none of the faults is met
size_none : (large : Bool) → (if large then Some TooLarge else None) ≡ None → large ≡ false
size_none true is = absurd (cc)
size_none false is = refl

some_width : (width : ℕ) → (suc width == 0) ≡ false
some_width width = grind (arith, nat_tests)

right_parts : (width : ℕ) (first : Option GridFault) (cells : ℕ) → (if width == 0 then Some Empty else option_or first (size_fault cells)) ≡ None → (0 < width) × (first ≡ None) × (cells ≤ 1048576)
right_parts zero first cells none = absurd (cc)
right_parts (suc width) first cells none =
    let some : (suc width == 0) ≡ false = some_width width in
    let parts = both_none first (size_fault cells) (rw some at none) in
    let small : nat_lt 1048576 cells ≡ false = size_none (nat_lt 1048576 cells) parts.1 in
    (omega arith, parts.0, ltb-false 1048576 cells small)

-- a text without a fault spells a grid within the limit
pub right-spelled : (text : List ℕ) → grid_fault_of (lines_of text) ≡ None → (g : GridView) × SpellsGrid text g × (g.width * g.height ≤ 1048576)
right-spelled text none =
    let parts = right_parts (width_of (lines_of text)) (first_fault (width_of (lines_of text)) (lines_of text)) (length (grid_bytes (lines_of text))) none in
    let spelled : SpellsGrid text (rows_grid (width_of (lines_of text)) (rows_of (lines_of text))) = right-spells text (width_of (lines_of text)) parts.0 refl parts.1 in
    (rows_grid (width_of (lines_of text)) (rows_of (lines_of text)), spelled, omega (arith, parts.2, spelled.grid.filled.as_many))

-- a text spells at most one grid
pub one_grid : (text : List ℕ) (a b : GridView) → SpellsGrid text a → SpellsGrid text b → a ≡ b
one_grid text a b one other =
    let left = spelled-lines text a one in
    let right = spelled-lines text b other in
    let width : a.width ≡ b.width = sym left.width ∙ right.width in
    let height : a.height ≡ b.height = sym left.height ∙ right.height in
    let bytes : a.bytes ≡ b.bytes = sym left.cells ∙ right.cells in
    λ i. record { width = width i; height = height i; bytes = bytes i }

-- the text that is written for rows spells them
written_rows : (row : List ℕ) (rows : List (List ℕ)) → SpellsRows (grid_text (row ∷ rows)) (row ∷ rows)
written_rows row [] = (10 ∷ [], inr (inl refl), refl)
written_rows row (next ∷ rows) = (10 ∷ [], grid_text (next ∷ rows), inl refl, refl, written_rows next rows)

written_all : (rows : List (List ℕ)) → 0 < length rows → SpellsRows (grid_text rows) rows
written_all [] some = absurd (omega arith)
written_all (row ∷ rows) some = written_rows row rows

-- the text that is written for a grid spells it
pub written_grid : (g : GridView) → IsGrid g → SpellsGrid (grid_text (raster_of_grid g).rows) g
written_grid g is = record {
  grid = is;
  rows = written_all (raster_of_grid g).rows (omega (arith, is.filled.some_row, height-raster_of g.width g.height g.bytes));
}

-- what reading makes of lines without a fault
pub made_grid : (text : List ℕ) (width : ℕ) (cells : List ℕ) → 0 < width → width ≡ width_of (lines_of text) → first_fault width (lines_of text) ≡ None → cells ≡ grid_bytes (lines_of text) → SpellsGrid text (record { width = width; height = length cells / width; bytes = cells })
made_grid text width cells wide first right is =
    let spelled : SpellsGrid text (rows_grid width (rows_of (lines_of text))) = right-spells text width wide first right in
    let high : length cells / width ≡ length (rows_of (lines_of text)) = ap (λ n. n / width) (ap length is ∙ spelled.grid.filled.as_many) ∙ mul-div_cancel_left (length (rows_of (lines_of text))) wide in
    rw (high, is) spelled

-- a text with a fault spells no grid within the limit
pub refused : (text : List ℕ) (fault : GridFault) → grid_fault_of (lines_of text) ≡ Some fault → (g : GridView) → SpellsGrid text g → g.width * g.height ≤ 1048576 → ⊥
refused text fault is g spelled within = let none = spelled-right text g spelled within in cc

-- a text with a fault is answered with it
pub fault_read : (text : List ℕ) (fault : GridFault) → grid_fault_of (lines_of text) ≡ Some fault → Err fault ≡ grid_of text
fault_read text fault is = sym (ap (λ (found : Option GridFault). unless_fault found (rows_grid (width_of (lines_of text)) (rows_of (lines_of text)))) is)

-- a text that spells a grid within the limit is read as it
pub grid_read : (text : List ℕ) (g : GridView) → SpellsGrid text g → g.width * g.height ≤ 1048576 → grid_of text ≡ Ok g
grid_read text g spelled within =
    let are = spelled-lines text g spelled in
    ap (λ (found : Option GridFault). unless_fault found (rows_grid (width_of (lines_of text)) (rows_of (lines_of text)))) (spelled-right text g spelled within)
    ∙ (λ i. Ok record { width = are.width i; height = are.height i; bytes = are.cells i })

-- two answers that are one are of one grid
same_answer : (a b : GridView) (one other : Result GridView GridFault) → one ≡ Ok a → other ≡ Ok b → one ≡ other → a ≡ b
same_answer a b one other first second same = cc

-- a grid that is read is spelled, and within the limit
pub read_grid : (text : List ℕ) (g : GridView) → grid_of text ≡ Ok g → SpellsGrid text g × (g.width * g.height ≤ 1048576)
read_grid text g is = by (grid_fault_of (lines_of text)) refl is
  where
    by : (found : Option GridFault) → grid_fault_of (lines_of text) ≡ found → unless_fault found (rows_grid (width_of (lines_of text)) (rows_of (lines_of text))) ≡ Ok g → SpellsGrid text g × (g.width * g.height ≤ 1048576)
    by None none made =
        let other = right-spelled text none in
        let same : other.0 ≡ g = same_answer other.0 g (grid_of text) (grid_of text) (grid_read text other.0 other.1 other.2) is refl in
        subst (λ (grid : GridView). SpellsGrid text grid × (grid.width * grid.height ≤ 1048576)) same (other.1, other.2)
    by (Some fault) found made = cc
