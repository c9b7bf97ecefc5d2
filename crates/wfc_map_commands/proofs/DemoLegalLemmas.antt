-- Which pictures are legal for a demonstration: its own lines on a larger grid, and not those of another.
use Rattle.std.proofs.Common.{Bool, List, [], ap, arith, false, get_or, if◌then◌else◌, inl, inr, length, map, not, refl, subst, sym, true, zero-add, ℕ, ◌%◌, ◌*◌, ◌+◌, ◌/◌, ◌<◌, ◌==◌, ◌||◌, ◌∙◌, ◌∷◌, ◌≡◌, ◌≤◌, ◌⊎◌}
use Rattle.std.proofs.Math.Nat.{mod-add-mod, mod-eq_of_lt, mod-lt, zero-mod}
use Rattle.std.proofs.lemmas.Bool.Decides.{nat_tests}
use Rattle.std.proofs.lemmas.List.{get_or-map, length-map}
use Rattle.std.proofs.lemmas.List.Elements.{All-from_recursion, All-nil, recursion_from_All}
use Rattle.std.proofs.lemmas.List.FromFn.{get_or-map-range_with_len}
use Rattle.std.proofs.lemmas.Nat.{div-mul-add, mod-mul-add}
use Rattle.std.specs.List.{All, AllByRecursion, Contains, filter, position_or_len, range_with_len}
use Rattle.wfc_lists.proofs.WithoutRepeats.{All-without_repeats}
use Rattle.wfc_lists.specs.WithoutRepeats.{without_repeats}
use Rattle.wfc_map_commands.proofs.DemonstrationLemmas.{demo_high, length-demo_symbols}
use Rattle.wfc_map_commands.specs.DemoClaims.{demo_rules}
use Rattle.wfc_map_commands.specs.Demonstration.{columns_apart, demo_picture, demo_symbol, demo_symbols, rows_apart}
use Rattle.wfc_model.proofs.CallerLemmas.{All-places, Arises-from, Contains-arising, IsSized-raster_of, arising-learned, at_place, learned-arising, number_at-raster_of, place_in_square, square-number, square-same, start_fits, start_from_fit}
use Rattle.wfc_model.specs.Image.{image}
use Rattle.wfc_model.specs.Learned.{arising, learned}
use Rattle.wfc_model.specs.Legal.{IsHeld, IsLegalPicture}
use Rattle.wfc_model.specs.Raster.{height_of, number_at}
use Rattle.wfc_model.specs.Window.{square, starts, window}
use Rattle.wfc_picture.specs.Palette.{palette_numbers, palette_of}
use Rattle.wfc_picture.specs.Symbol.{same_symbol}
use Rattle.wfc_picture.specs.declared.symbol.Symbol.{Symbol}
use Rattle.wfc_picture.specs.declared.symbol.Symbol.TheVariants.{Char}

-- ---- numbers of symbols

-- a symbol of a demonstration
abbrev IsDrawn : Symbol → Type 0
IsDrawn symbol = (symbol ≡ Char 35) ⊎ (symbol ≡ Char 46)

-- its number in the palette
abbrev number_of : Symbol → ℕ
number_of symbol = if same_symbol symbol (Char 35) then 0 else 1

-- behind what is first, all that is left of the palette is the other
left_over : (symbols : List Symbol) → AllByRecursion IsDrawn symbols → position_or_len (same_symbol (Char 46)) (filter (λ y. not (same_symbol (Char 35) y)) symbols) ≡ 0
left_over [] all = refl
left_over (s ∷ ss) (inl line, rest) = ap (λ s. position_or_len (same_symbol (Char 46)) (filter (λ y. not (same_symbol (Char 35) y)) (s ∷ ss))) line ∙ left_over ss rest
left_over (s ∷ ss) (inr between, rest) = ap (λ s. position_or_len (same_symbol (Char 46)) (filter (λ y. not (same_symbol (Char 35) y)) (s ∷ ss))) between

-- where a line's symbol comes first, it has number 0, and the other has 1
numbered : (symbols : List Symbol) → 0 < length symbols → get_or symbols 0 (Char 35) ≡ Char 35 → All IsDrawn symbols → (s : Symbol) → IsDrawn s
    → position_or_len (same_symbol s) (palette_of symbols) ≡ number_of s
numbered [] some first all s drawn = absurd (omega arith)
numbered (x ∷ xs) some first all s drawn = by drawn
  where
    later : List Symbol
    later = without_repeats same_symbol xs

    all_later : AllByRecursion IsDrawn later
    all_later = recursion_from_All IsDrawn later (All-without_repeats same_symbol IsDrawn xs (All-from_recursion IsDrawn xs (recursion_from_All IsDrawn (x ∷ xs) all).1))

    at : Symbol → Symbol → ℕ
    at s x = position_or_len (same_symbol s) (x ∷ filter (λ y. not (same_symbol x y)) later)

    by : IsDrawn s → at s x ≡ number_of s
    by (inl line) = ap (at s) first ∙ ap (λ s. at s (Char 35)) line ∙ sym (ap number_of line)
    by (inr between) = ap (at s) first ∙ ap (λ s. at s (Char 35)) between ∙ ap (λ k. 1 + k) (left_over later all_later) ∙ sym (ap number_of between)

-- ---- numbers of pixels

-- whether a pixel is on a line
abbrev is_line : ℕ → ℕ → ℕ → Bool
is_line n x y = x % columns_apart n == 0 || y % rows_apart n == 0

-- its number: 0 on a line, and 1 elsewhere
abbrev pixel : ℕ → ℕ → ℕ → ℕ
pixel n x y = if is_line n x y then 0 else 1

drawn_at : (n x y : ℕ) → IsDrawn (demo_symbol n x y)
drawn_at n x y = by (is_line n x y)
  where
    by : (b : Bool) → IsDrawn (if b then Char 35 else Char 46)
    by true = inl refl
    by false = inr refl

number_at_place : (n x y : ℕ) → number_of (demo_symbol n x y) ≡ pixel n x y
number_at_place n x y = by (is_line n x y)
  where
    by : (b : Bool) → number_of (if b then Char 35 else Char 46) ≡ (if b then 0 else 1)
    by true = refl
    by false = refl

symbol_at : (n side k : ℕ) → k < side * side → (d : Symbol) → get_or (demo_symbols n side) k d ≡ demo_symbol n (k % side) (k / side)
symbol_at n side k inside d = get_or-map-range_with_len (λ k. demo_symbol n (k % side) (k / side)) 0 (side * side) k k d inside (zero-add k)

drawn_all : (n side : ℕ) → All IsDrawn (demo_symbols n side)
drawn_all n side = λ k d inside. subst IsDrawn (sym (symbol_at n side k (omega (arith, inside, length-demo_symbols n side)) d)) (drawn_at n (k % side) (k / side))

-- the number of a pixel of the picture
number_is : (n side x y : ℕ) → x < side → y < side → number_at (demo_picture n side) x y ≡ pixel n x y
number_is n side x y left below =
    let symbols = demo_symbols n side in
    let k = y * side + x in
    let inside : k < side * side = place_in_square side x y left below in
    let some : 0 < side * side = omega (arith, inside) in
    let first : get_or symbols 0 (Char 35) ≡ Char 35 = symbol_at n side 0 some (Char 35) ∙ first_line side in
    let here : get_or symbols k (Char 35) ≡ demo_symbol n x y =
    symbol_at n side k inside (Char 35) ∙ ap (λ x. demo_symbol n x (k / side)) (mod-mul-add y side x left) ∙ ap (demo_symbol n x) (div-mul-add y side x left) in
    number_at-raster_of side side (palette_numbers symbols) x y left below
    ∙ get_or-map (λ symbol. position_or_len (same_symbol symbol) (palette_of symbols)) symbols k (Char 35) 0 (omega (arith, inside, length-demo_symbols n side))
    ∙ ap (λ symbol. position_or_len (same_symbol symbol) (palette_of symbols)) here
    ∙ numbered symbols (omega (arith, some, length-demo_symbols n side)) first (drawn_all n side) (demo_symbol n x y) (drawn_at n x y)
    ∙ number_at_place n x y
  where
    first_line : (side : ℕ) → demo_symbol n (0 % side) (0 / side) ≡ Char 35
    first_line side = ap (λ x. demo_symbol n x (0 / side)) (zero-mod side) ∙ ap (λ x. if x == 0 || (0 / side) % rows_apart n == 0 then Char 35 else Char 46) (zero-mod (columns_apart n))

-- so those of a window
window_is : (n side x y : ℕ) → x + 3 ≤ side → y + 3 ≤ side → window (demo_picture n side) x y 3 ≡ square 3 (λ i j. pixel n (x + i) (y + j))
window_is n side x y across down =
    let m = demo_picture n side in
    square-same 3 (λ i j. number_at m ((x + i) % side) ((y + j) % height_of m)) (λ i j. pixel n (x + i) (y + j))
    (λ i j column row.
    ap (λ k. number_at m k ((y + j) % height_of m)) (mod-eq_of_lt (omega (arith, across, column)))
    ∙ ap (λ h. number_at m (x + i) ((y + j) % h)) (demo_high n side)
    ∙ ap (number_at m (x + i)) (mod-eq_of_lt (omega (arith, down, row)))
    ∙ number_is n side (x + i) (y + j) (omega (arith, across, column)) (omega (arith, down, row)))

-- ---- legal pictures

-- each window of lines stands in the first columns and rows too
window_again : (n x y : ℕ) → square 3 (λ i j. pixel n (x + i) (y + j)) ≡ square 3 (λ i j. pixel n (x % columns_apart n + i) (y % rows_apart n + j))
window_again n x y = square-same 3 (λ i j. pixel n (x + i) (y + j)) (λ i j. pixel n (x % columns_apart n + i) (y % rows_apart n + j))
    (λ i j column row.
    ap (λ k. if k == 0 || (y + j) % rows_apart n == 0 then 0 else 1) (sym (mod-add-mod x (columns_apart n) i))
    ∙ ap (λ k. if (x % columns_apart n + i) % columns_apart n == 0 || k == 0 then 0 else 1) (sym (mod-add-mod y (rows_apart n) j)))

-- the lines of a demonstration, drawn on another square, are legal for it
pub lines_legal : (n small large : ℕ) → 9 ≤ small → 3 ≤ large → IsLegalPicture (demo_picture n small) demo_rules [] large large (demo_picture n large)
lines_legal n small large some more =
    let sample = demo_picture n small in
    let m = demo_picture n large in
    record {
      sized = IsSized-raster_of large large (palette_numbers (demo_symbols n large))
          (record { some_column = omega (arith, more); some_row = omega (arith, more); as_many = length-map (demo_symbols n large) (λ symbol. position_or_len (same_symbol symbol) (palette_of (demo_symbols n large))) ∙ length-demo_symbols n large });
      wide = more;
      high = more;
      windows = All-places (λ (place : ℕ × ℕ). Contains (learned sample 3 1 false) (window m place.0 place.1 3)) large large 3 false
          (λ x y left below.
          let u = x % columns_apart n in
          let v = y % rows_apart n in
          let few_columns : u < columns_apart n = mod-lt x (omega arith) in
          let few_rows : v < rows_apart n = mod-lt y (omega arith) in
          let column : u + 3 ≤ small = omega (arith, few_columns, some) in
          let row : v + 3 ≤ small = omega (arith, few_rows, some) in
          let same : window sample u v 3 ≡ window m x y 3 =
          window_is n small u v column row ∙ sym (window_again n x y) ∙ sym (window_is n large x y (start_fits large 3 x left) (start_fits large 3 y below)) in
          arising-learned sample 3 1 false (window m x y 3)
          (subst (Contains (arising sample 3 1 false)) same
          (Contains-arising sample 3 1 false u v 0 (start_from_fit small 3 u column)
          (subst (λ h. v < starts h 3 false) (sym (demo_high n small)) (start_from_fit small 3 v row)) (omega arith))));
      held = All-nil (IsHeld m);
    }

-- a pixel between the lines is in no column of theirs
between_columns : (n x y : ℕ) → pixel n x y ≡ 1 → (x % columns_apart n == 0) ≡ false
between_columns n x y is = by (x % columns_apart n == 0) (y % rows_apart n == 0) is
  where
    by : (b c : Bool) → ◌≡◌ {A = ℕ} (if b || c then 0 else 1) 1 → b ≡ false
    by true c e = absurd (omega (arith, e))
    by false c e = refl

-- and those of demonstration 1, which stand further apart, are legal for no square of demonstration 0
pub other_lines : (small large : ℕ) → 3 ≤ small → 4 ≤ large → IsLegalPicture (demo_picture 0 small) demo_rules [] large large (demo_picture 1 large) → ⊥
other_lines small large some more legal =
    let sample = demo_picture 0 small in
    let m = demo_picture 1 large in
    let place : 1 < starts large 3 false = start_from_fit large 3 1 (omega (arith, more)) in
    let taught = at_place (λ (place : ℕ × ℕ). Contains (learned sample 3 1 false) (window m place.0 place.1 3)) large large 3 false legal.windows 1 1 place place in
    let from = Arises-from sample 3 1 false (window m 1 1 3) (learned-arising sample 3 1 false (window m 1 1 3) taught) in
    let first : from.k ≡ 0 = omega (arith, from.first) in
    let below : from.y < starts small 3 false = subst (λ h. from.y < starts h 3 false) (demo_high 0 small) from.below in
    let same : square 3 (λ i j. pixel 1 (1 + i) (1 + j)) ≡ square 3 (λ i j. pixel 0 (from.x + i) (from.y + j)) =
    sym (window_is 1 large 1 1 (omega (arith, more)) (omega (arith, more))) ∙ from.same ∙ ap (image 3 (window sample from.x from.y 3)) first
    ∙ window_is 0 small from.x from.y (start_fits small 3 from.x from.left) (start_fits small 3 from.y below) in
    let off : (i : ℕ) → i < 3 → pixel 1 (1 + i) 1 ≡ 1 → ((from.x + i) % 3 == 0) ≡ false
    = λ i column between. between_columns 0 (from.x + i) (from.y + 0) (sym (square-number 3 (λ i j. pixel 1 (1 + i) (1 + j)) (λ i j. pixel 0 (from.x + i) (from.y + j)) same i 0 column (omega arith)) ∙ between) in
    grind (arith, nat_tests, off 0 (omega arith) refl, off 1 (omega arith) refl, off 2 (omega arith) refl)
