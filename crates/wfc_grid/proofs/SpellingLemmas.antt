-- The lines of a text that spells rows, and the rows that lines spell.
use Rattle.std.proofs.Common.{eqb-true, ◌≡◌, ℕ, ◌+◌, ◌<◌, List, [], ◌∷◌, ◌++◌, length, inl, inr, refl, sym, ap, ◌∙◌, append_assoc, arith, true, false, get_or, append-nil, ◌==◌, ◌-◌, take, length-append, Bool, if◌then◌else◌, ◌≤◌, length-take}
use Rattle.std.proofs.Math.Seq.{get_or-append_seam}
use Rattle.std.proofs.lemmas.Bool.Decides.{nat_tests}
use Rattle.std.proofs.lemmas.Bool.{true≢false}
use Rattle.std.proofs.lemmas.List.Splits.{join_with_byte-slice_split}
use Rattle.std.proofs.lemmas.List.{take_at, take_all, take_more}
use Rattle.std.proofs.lemmas.List.Elements.{All-append, All-from_recursion}
use Rattle.std.specs.List.{All, AllPass, AllByRecursion, concat, join_with_byte, slice_split}
use Rattle.std.specs.Str.Lines.{strip_carriage_return}
use Rattle.wfc_text.specs.Line.{LineView, is_line_feed, lines_from, lines_of, lines_of_parts}
use Rattle.wfc_text.proofs.CallerLemmas.{lines_from-feed, lines_from-plain}
use Rattle.wfc_grid.specs.Grid.{is_grid_byte}
use Rattle.wfc_grid.specs.Spelling.{IsLineEnd, SpellsRows}
use Rattle.wfc_grid.specs.Fault.{rows_of, grid_bytes, width_of}

-- a row has a byte, and each may stand in a grid
pub record IsRow (row : List ℕ) : Type 0 where
  pub some : 0 < length row
  pub printable : AllPass is_grid_byte row

-- a byte that may stand in a grid is no line feed
cell-no_feed : (b : ℕ) → is_grid_byte b ≡ true → is_line_feed b ≡ false
cell-no_feed b cell = grind (arith, nat_tests)

cell-no_return : (b : ℕ) → is_grid_byte b ≡ true → (b == 13) ≡ false
cell-no_return b cell = grind (arith, nat_tests)

-- a row has no line feed
plain_row : (row : List ℕ) → AllPass is_grid_byte row → All (λ b. is_line_feed b ≡ false) row
plain_row row cells k d inside = cell-no_feed _ (cells k d inside)

-- a row does not end with a carriage return
strip-row : (row : List ℕ) → IsRow row → strip_carriage_return row ≡ row
strip-row row right =
    let last : (get_or row (length row - 1) 0 == 13) ≡ false = cell-no_return _ (right.printable (length row - 1) 0 (omega (arith, right.some))) in
    rw last refl

-- a carriage return behind a row is taken away
strip-return : (row : List ℕ) → strip_carriage_return (row ++ 13 ∷ []) ≡ row
strip-return row =
    let before : length (row ++ 13 ∷ []) - 1 ≡ length row = omega (arith, length-append row (13 ∷ [])) in
    rw (before, get_or-append_seam row 13 [] 0) (take_at row (13 ∷ []) (length row) refl)

-- a row with its end is a line
first_row : (n : ℕ) (row end rest : List ℕ) → IsRow row → IsLineEnd end → lines_from n (row ++ (end ++ rest)) ≡ record { number = n; bytes = row; ended = true } ∷ lines_from (n + 1) rest
first_row n row end rest right (inl feed) =
    ap (λ e. lines_from n (row ++ (e ++ rest))) feed
    ∙ lines_from-feed n row rest (plain_row row right.printable)
    ∙ ap (λ bytes. record { number = n; bytes = bytes; ended = true } ∷ lines_from (n + 1) rest) (strip-row row right)
first_row n row end rest right (inr both) =
    ap (λ e. lines_from n (row ++ (e ++ rest))) both
    ∙ ap (lines_from n) (sym (append_assoc row (13 ∷ []) (10 ∷ rest)))
    ∙ lines_from-feed n (row ++ 13 ∷ []) rest (All-append (λ b. is_line_feed b ≡ false) row (13 ∷ []) (plain_row row right.printable) (All-from_recursion (λ b. is_line_feed b ≡ false) (13 ∷ []) (refl, tt)))
    ∙ ap (λ bytes. record { number = n; bytes = bytes; ended = true } ∷ lines_from (n + 1) rest) (strip-return row)

-- the lines of a text that spells rows are these rows
pub rows_of-spelled : (n : ℕ) (text : List ℕ) (rows : List (List ℕ)) → AllByRecursion IsRow rows → SpellsRows text rows → rows_of (lines_from n text) ≡ rows
rows_of-spelled n text [] right spelled = absurd spelled
rows_of-spelled n text (row ∷ []) right (end, inl none, is) =
    ap (λ t. rows_of (lines_from n t)) (is ∙ ap (λ e. row ++ e) none ∙ append-nil row)
    ∙ ap rows_of (lines_from-plain n row right.0.some (plain_row row right.0.printable))
rows_of-spelled n text (row ∷ []) right (end, inr some, is) =
    ap (λ t. rows_of (lines_from n t)) (is ∙ ap (λ e. row ++ e) (sym (append-nil end)))
    ∙ ap rows_of (first_row n row end [] right.0 some)
rows_of-spelled n text (row ∷ next ∷ rows) right (end, rest, some, is, more) =
    ap (λ t. rows_of (lines_from n t)) is
    ∙ ap rows_of (first_row n row end rest right.0 some)
    ∙ ap (λ t. row ∷ t) (rows_of-spelled (n + 1) rest (next ∷ rows) right.1 more)

-- a part whose last byte is a carriage return
ends_with_return : (part : List ℕ) → (get_or part (length part - 1) 0 == 13) ≡ true → take (length part - 1) part ++ 13 ∷ [] ≡ part
ends_with_return [] last = absurd (true≢false (sym last))
ends_with_return (b ∷ part) last =
    let before : length (b ∷ part) - 1 ≡ length part = omega arith in
    let is : get_or (b ∷ part) (length part) 0 ≡ 13 = eqb-true _ 13 (rw before at last) in
    rw before
    (ap (λ x. take (length part) (b ∷ part) ++ x ∷ []) (sym is)
    ∙ sym (take_more (b ∷ part) (length part) 0 (omega arith))
    ∙ take_all (length part + 1) (b ∷ part) (omega arith))

stripped_by : (part rest : List ℕ) (last : Bool) → (last ≡ true → take (length part - 1) part ++ 13 ∷ [] ≡ part) → (end : List ℕ) × IsLineEnd end × (part ++ 10 ∷ rest ≡ (if last then take (length part - 1) part else part) ++ (end ++ rest))
stripped_by part rest false whole = (10 ∷ [], inl refl, refl)
stripped_by part rest true whole = (13 ∷ 10 ∷ [], inr refl, ap (λ t. t ++ 10 ∷ rest) (sym (whole refl)) ∙ append_assoc (take (length part - 1) part) (13 ∷ []) (10 ∷ rest))

-- a part of a text up to its line feed is a line and its end
stripped_end : (part rest : List ℕ) → (end : List ℕ) × IsLineEnd end × (part ++ 10 ∷ rest ≡ strip_carriage_return part ++ (end ++ rest))
stripped_end part rest = stripped_by part rest (get_or part (length part - 1) 0 == 13) (ends_with_return part)

-- a line with its end before a text that spells rows spells one row more
join_rows : (part rest : List ℕ) (lines : List LineView) → (length lines ≡ 0 → rest ≡ []) → (0 < length lines → SpellsRows rest (rows_of lines)) → SpellsRows (part ++ 10 ∷ rest) (strip_carriage_return part ∷ rows_of lines)
join_rows part rest [] none some =
    let cut = stripped_end part rest in
    (cut.0, inr cut.1, cut.2 ∙ ap (λ t. strip_carriage_return part ++ (cut.0 ++ t)) (none refl) ∙ ap (λ t. strip_carriage_return part ++ t) (append-nil cut.0))
join_rows part rest (line ∷ lines) none some =
    let cut = stripped_end part rest in
    (cut.0, rest, cut.1, cut.2, some (omega arith))

-- parts between line feeds of which no line is made
no_line : (n : ℕ) (part : List ℕ) (parts : List (List ℕ)) → length (lines_of_parts n (part ∷ parts)) ≡ 0 → join_with_byte 10 (part ∷ parts) ≡ []
no_line n [] [] none = refl
no_line n (b ∷ part) [] none = absurd (omega arith)
no_line n part (next ∷ parts) none = absurd (omega arith)

-- the parts between line feeds spell the lines that are made of them
parts_spell : (n : ℕ) (part : List ℕ) (parts : List (List ℕ)) → 0 < length (lines_of_parts n (part ∷ parts)) → SpellsRows (join_with_byte 10 (part ∷ parts)) (rows_of (lines_of_parts n (part ∷ parts)))
parts_spell n [] [] some = absurd (omega arith)
parts_spell n (b ∷ part) [] some = ([], inl refl, sym (append-nil (b ∷ part)))
parts_spell n part (next ∷ parts) some =
    join_rows part (join_with_byte 10 (next ∷ parts)) (lines_of_parts (n + 1) (next ∷ parts)) (no_line (n + 1) next parts) (parts_spell (n + 1) next parts)

all_parts_spell : (n : ℕ) (parts : List (List ℕ)) → 0 < length (lines_of_parts n parts) → SpellsRows (join_with_byte 10 parts) (rows_of (lines_of_parts n parts))
all_parts_spell n [] some = absurd (omega arith)
all_parts_spell n (part ∷ parts) some = parts_spell n part parts some

-- a text that has a line spells its lines
pub lines-spell : (n : ℕ) (text : List ℕ) → 0 < length (lines_from n text) → SpellsRows text (rows_of (lines_from n text))
lines-spell n text some =
    let spelled : SpellsRows (join_with_byte 10 (slice_split is_line_feed text)) (rows_of (lines_from n text)) = all_parts_spell n (slice_split is_line_feed text) some in
    rw (join_with_byte-slice_split 10 text) at spelled

-- lines have no more bytes than the text that they are cut from
strip-shorter : (part : List ℕ) → length (strip_carriage_return part) ≤ length part
strip-shorter part = shorter (get_or part (length part - 1) 0 == 13)
  where
    shorter : (last : Bool) → length (if last then take (length part - 1) part else part) ≤ length part
    shorter true = omega (arith, length-take (length part - 1) part)
    shorter false = omega arith

parts_shorter : (n : ℕ) (parts : List (List ℕ)) → length (concat (rows_of (lines_of_parts n parts))) ≤ length (join_with_byte 10 parts)
parts_shorter n [] = omega arith
parts_shorter n ([] ∷ []) = omega arith
parts_shorter n ((b ∷ part) ∷ []) = omega (arith, length-append (b ∷ part) [])
parts_shorter n (part ∷ next ∷ parts) =
    omega (arith, strip-shorter part, parts_shorter (n + 1) (next ∷ parts), length-append (strip_carriage_return part) (concat (rows_of (lines_of_parts (n + 1) (next ∷ parts)))), length-append part (10 ∷ join_with_byte 10 (next ∷ parts)))

pub length-cells_of : (text : List ℕ) → length (grid_bytes (lines_of text)) ≤ length text
length-cells_of text =
    let shorter : length (grid_bytes (lines_of text)) ≤ length (join_with_byte 10 (slice_split is_line_feed text)) = parts_shorter 1 (slice_split is_line_feed text) in
    rw (join_with_byte-slice_split 10 text) at shorter

pub width_of-shorter : (lines : List LineView) → width_of lines ≤ length (grid_bytes lines)
width_of-shorter [] = omega arith
width_of-shorter (line ∷ lines) = omega (arith, length-append line.bytes (grid_bytes lines))

-- a line that is still to come is no longer than the text
pub line-shorter : (cells : List ℕ) (lines rest : List LineView) (line : LineView) (text : List ℕ) → cells ++ grid_bytes lines ≡ grid_bytes (lines_of text) → lines ≡ line ∷ rest → length line.bytes ≤ length text
line-shorter cells lines rest line text whole next =
    omega (arith, ap length whole, ap (λ (ls : List LineView). length (grid_bytes ls)) next, length-append cells (grid_bytes lines), length-append line.bytes (grid_bytes rest), length-cells_of text)
