-- The lines of a stuck block, read by the palette, are its pins.
use Rattle.std.proofs.Common.{◌≡◌, ℕ, ◌+◌, ◌<◌, Bool, true, false, ◌||◌, nat_lt, Some, Result, Ok, Err, List, [], ◌∷◌, ◌++◌, length, get_or, map, filter, position, ap, sym, ◌∙◌, subst, refl, arith, if◌then◌else◌}
use Rattle.std.specs.Prelude.{All, IsTrue}
use Rattle.std.specs.List.{AllByRecursion, IsDistinct}
use Rattle.std.specs.Str.{bytes_eq}
use Rattle.std.proofs.lemmas.Bool.{false≢true, le-ltb}
use Rattle.std.proofs.lemmas.List.{get_or-map, map-append, map-id}
use Rattle.std.proofs.lemmas.Map.Keys.{apart_from_distinct}
use Rattle.std.proofs.lemmas.Simd.{map-map}
use Rattle.std.proofs.lemmas.Slice.Eq.{bytes_eq-Decides}
use Rattle.wfc_lists.proofs.Positions.{position-map, position_at}
use Rattle.wfc_model.specs.Legal.{Pin, kept_pin}
use Rattle.wfc_outside.specs.Gives.{result_map}
use Rattle.wfc_picture.specs.Symbol.{is_shown, same_symbol, symbol_text}
use Rattle.wfc_picture.specs.declared.symbol.Symbol.{Symbol}
use Rattle.wfc_picture.specs.declared.symbol.Symbol.TheVariants.{Char}
use Rattle.wfc_picture.proofs.CallerLemmas.{one_symbol, same_symbol-whole}
use Rattle.wfc_pins.specs.InOrder.{all_in_order, and_rest}
use Rattle.wfc_pins.specs.PinView.{PinView}
use Rattle.wfc_pins.specs.declared.fault.BuildFault.{BuildFault}
use Rattle.wfc_pattern.specs.Patterns.{PatternsView}
use Rattle.wfc_pins.specs.declared.fault.BuildFault.TheVariants.{SizeBelowN, TooLarge}
use Rattle.wfc_problem.specs.declared.TheConstants.{MAX_PAIRS}
use Rattle.wfc_overlap.specs.Bridge.{IsRoom, window_pair_count}
use Rattle.wfc_overlap.specs.Built.{picture_problem, picture_pin, picture_pins, texts_of}
use Rattle.wfc_overlap.specs.Sample.{problem_of_sample}
use Rattle.wfc_overlap.proofs.CallerLemmas.{MeansPin, first_meant, meant_pin, pin_meant}
use Rattle.wfc_blocks.specs.Blocks.{lies_in, output_of_block}
use Rattle.wfc_blocks.specs.Canvas.{Canvas, line_in_block, lines_of_block, lines_within, made_in_block, pin_in_block, pins_of_block, pins_within, set_line}
use Rattle.wfc_blocks.specs.declared.block.Block.{Block}
use Rattle.wfc_blocks.proofs.BlockLemmas.{lies_back}
use Rattle.wfc_blocks.proofs.CanvasLemmas.{made_all}
use Rattle.wfc_blocks.proofs.LineLemmas.{map_block}
use Rattle.wfc_blocks.proofs.SmallLemmas.{AreSetBelow}

-- ---- the text of a number stands at its number

text_place : (palette : List Symbol) (n : ℕ) → All (λ symbol. IsTrue (is_shown symbol)) palette → IsDistinct same_symbol palette → n < length palette
    → position (λ text. bytes_eq text (get_or (texts_of palette) n [])) (texts_of palette) ≡ Some n
text_place palette n shown apart inside =
    let blank : Symbol = Char 0x20 in
    let symbol = get_or palette n blank in
    let text : get_or (texts_of palette) n [] ≡ symbol_text symbol = get_or-map symbol_text palette n blank [] inside in
    ap (λ (word : List ℕ). position (λ text. bytes_eq text word) (texts_of palette)) text
    ∙ position-map (λ text. bytes_eq text (symbol_text symbol)) symbol_text palette
    ∙ position_at (λ other. bytes_eq (symbol_text other) (symbol_text symbol)) palette n blank inside ((bytes_eq-Decides (symbol_text symbol) (symbol_text symbol)).1 refl)
    (λ k before. other blank symbol refl k before (bytes_eq (symbol_text (get_or palette k blank)) (symbol_text symbol)) refl)
  where
    other : (blank symbol : Symbol) → get_or palette n blank ≡ symbol → (k : ℕ) → k < n → (b : Bool) → bytes_eq (symbol_text (get_or palette k blank)) (symbol_text symbol) ≡ b → b ≡ false
    other blank symbol is k before false e = refl
    other blank symbol is k before true e =
        let word = symbol_text symbol in
        let texts : symbol_text (get_or palette k blank) ≡ word = (bytes_eq-Decides (symbol_text (get_or palette k blank)) word).0 e in
        let same : get_or palette k blank ≡ symbol =
        one_symbol word (get_or palette k blank) symbol (record { shown = shown k blank (omega arith); text = sym texts }) (record { shown = subst (λ s. IsTrue (is_shown s)) is (shown n blank inside); text = refl }) in
        absurd (false≢true (sym (apart_from_distinct same_symbol palette k n blank apart before inside) ∙ ap (same_symbol (get_or palette k blank)) (is ∙ sym same) ∙ same_symbol-whole (get_or palette k blank)))

-- ---- answers in order

-- where each of these is an answer, they stand in front of those behind them
front_ok : {X Y E : Type 0} (f : X → Result Y E) (g : X → Y) (xs : List X) (more : List (Result Y E)) (later : List Y) → AllByRecursion (λ x. f x ≡ Ok (g x)) xs → all_in_order more ≡ Ok later → all_in_order (map f xs ++ more) ≡ Ok (map g xs ++ later)
front_ok f g [] more later each back = back
front_ok f g (x ∷ xs) more later each back = ap (λ r. and_rest r (all_in_order (map f xs ++ more))) each.0 ∙ ap (result_map (λ ys. g x ∷ ys)) (front_ok f g xs more later each.1 back)

-- ---- the lines that lie in a block

-- a line that lies in a block means its pin there
line_meant : (texts : List (List ℕ)) (width height : ℕ) (block : Block) (line : PinView) (pin : Pin) → MeansPin texts width height line pin → lies_in block line.x line.y ≡ true → picture_pin texts block.width block.height (line_in_block block line) ≡ Ok (pin_in_block block pin)
line_meant texts width height block line pin means lies =
    let at = lies_back block line.x line.y lies in
    meant_pin texts block.width block.height (line_in_block block line) (pin_in_block block pin) (record {
      number = means.number;
      column_in = omega (arith, at.left, at.right);
      row_in = omega (arith, at.top, at.bottom);
      place = means.place;
      is = ap (pin_in_block block) means.is;
    })

-- the lines that lie in a block mean the pins that do
within_meant : (texts : List (List ℕ)) (width height : ℕ) (block : Block) (lines : List PinView) (pins : List Pin) → picture_pins texts width height lines ≡ Ok pins → picture_pins texts block.width block.height (lines_within block lines) ≡ Ok (pins_within block pins)
within_meant texts width height block [] pins is =
    let none : (let nil : List Pin = [] in nil) ≡ pins = cc (is) in
    ap (λ (pins : List Pin). Ok (pins_within block pins)) none
within_meant texts width height block (line ∷ lines) pins is =
    let parts = first_meant texts width height line lines pins is in
    let means = pin_meant texts width height line parts.pin parts.first in
    by parts.pin parts.rest means (within_meant texts width height block lines parts.rest parts.later) (lies_in block line.x line.y) refl
    ∙ ap (λ (pins : List Pin). Ok (pins_within block pins)) parts.is
  where
    -- what is kept of a first line and of its pin, by one test
    by : (pin : Pin) (rest : List Pin) → MeansPin texts width height line pin → picture_pins texts block.width block.height (lines_within block lines) ≡ Ok (pins_within block rest) → (b : Bool) → lies_in block line.x line.y ≡ b
        → picture_pins texts block.width block.height (lines_within block (line ∷ lines)) ≡ Ok (pins_within block (pin ∷ rest))
    by pin rest means later true lies =
        let there : lies_in block pin.column pin.row ≡ true = ap (λ (p : Pin). lies_in block p.column p.row) (sym means.is) ∙ lies in
        ap (λ b. picture_pins texts block.width block.height (map (line_in_block block) (if b then line ∷ filter (λ (line : PinView). lies_in block line.x line.y) lines else filter (λ (line : PinView). lies_in block line.x line.y) lines))) lies
        ∙ ap (λ r. and_rest r (picture_pins texts block.width block.height (lines_within block lines))) (line_meant texts width height block line pin means lies)
        ∙ ap (result_map (λ pins. pin_in_block block pin ∷ pins)) later
        ∙ ap (λ b. Ok (map (pin_in_block block) (if b then pin ∷ filter (λ (pin : Pin). lies_in block pin.column pin.row) rest else filter (λ (pin : Pin). lies_in block pin.column pin.row) rest))) (sym there)
    by pin rest means later false lies =
        let there : lies_in block pin.column pin.row ≡ false = ap (λ (p : Pin). lies_in block p.column p.row) (sym means.is) ∙ lies in
        ap (λ b. picture_pins texts block.width block.height (map (line_in_block block) (if b then line ∷ filter (λ (line : PinView). lies_in block line.x line.y) lines else filter (λ (line : PinView). lies_in block line.x line.y) lines))) lies
        ∙ later
        ∙ ap (λ b. Ok (map (pin_in_block block) (if b then pin ∷ filter (λ (pin : Pin). lies_in block pin.column pin.row) rest else filter (λ (pin : Pin). lies_in block pin.column pin.row) rest))) (sym there)

-- ---- all lines of a block

-- they mean its pins, where each number that is set is one of the palette's
pub lines_meant : (palette : List Symbol) (width height : ℕ) (lines : List PinView) (pins : List Pin) (canvas : Canvas) (block : Block) → All (λ symbol. IsTrue (is_shown symbol)) palette → IsDistinct same_symbol palette → AreSetBelow (length palette) canvas
    → picture_pins (texts_of palette) width height lines ≡ Ok pins → picture_pins (texts_of palette) block.width block.height (lines_of_block (texts_of palette) lines canvas block) ≡ Ok (pins_of_block pins canvas block)
lines_meant palette width height lines pins canvas block shown apart below meant =
    let texts = texts_of palette in
    let line : Pin → PinView = λ pin. set_line texts pin.column pin.row pin.number in
    let read : PinView → Result Pin BuildFault = picture_pin texts block.width block.height in
    let set = made_in_block kept_pin canvas block in
    let more = lines_within block lines in
    let each : AllByRecursion (λ pin. read (line pin) ≡ Ok pin) set =
    made_all (λ pin. read (line pin) ≡ Ok pin) kept_pin canvas block (λ i j number column row is.
    meant_pin texts block.width block.height (line (kept_pin i j number)) (kept_pin i j number)
    (record { number = number; column_in = column; row_in = row; place = text_place palette number shown apart (below (block.x + i) (block.y + j) number is); is = refl })) in
    ap all_in_order
    (ap (λ (first : List PinView). map read (first ++ more)) (sym (map_block line kept_pin canvas block)) ∙ map-append read (map line set) more ∙ ap (λ (rs : List (Result Pin BuildFault)). rs ++ map read more) (map-map read line set))
    ∙ front_ok (λ pin. read (line pin)) (λ pin. pin) set (map read more) (pins_within block pins) each (within_meant texts width height block lines pins meant)
    ∙ ap (λ (ps : List Pin). Ok (ps ++ pins_within block pins)) (map-id set)

-- so what is built with them is the block's problem
pub lines_built : (patterns : PatternsView) (palette : List Symbol) (block : Block) (lines : List PinView) (pins : List Pin) → IsRoom patterns (output_of_block block) → picture_pins (texts_of palette) block.width block.height lines ≡ Ok pins → picture_problem patterns palette (output_of_block block) lines ≡ Ok (problem_of_sample patterns (output_of_block block) pins)
lines_built patterns palette block lines pins room meant =
    let output = output_of_block block in
    let many = window_pair_count patterns output in
    let read = picture_pins (texts_of palette) block.width block.height lines in
    let narrow : nat_lt block.width patterns.n ≡ false = le-ltb block.width patterns.n room.wide in
    let low : nat_lt block.height patterns.n ≡ false = le-ltb block.height patterns.n room.high in
    let few : nat_lt MAX_PAIRS many ≡ false = le-ltb MAX_PAIRS many room.few_pairs in
    ap (result_map (problem_of_sample patterns output))
    (ap (λ b. if b || nat_lt block.height patterns.n then Err SizeBelowN else (if nat_lt MAX_PAIRS many then Err (TooLarge many) else read)) narrow
    ∙ ap (λ b. if b then Err SizeBelowN else (if nat_lt MAX_PAIRS many then Err (TooLarge many) else read)) low
    ∙ ap (λ b. if b then Err (TooLarge many) else read) few
    ∙ meant)
