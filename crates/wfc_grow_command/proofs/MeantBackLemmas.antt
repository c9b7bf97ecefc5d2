-- What the lines of a stuck block mean can be written, and means the same where it is read back with other numbers.
use Rattle.std.proofs.Common.{◌≡◌, ℕ, ◌+◌, ◌<◌, ◌≤◌, ◌^◌, ◌||◌, nat_lt, List, [], ◌∷◌, length, get_or, Result, Ok, Err, sym, subst, ap, ◌∙◌, arith, if◌then◌else◌}
use Rattle.std.specs.Prelude.{All, Contains, IsTrue}
use Rattle.std.specs.Str.{bytes_eq}
use Rattle.std.proofs.lemmas.List.{get_or-map, length-map}
use Rattle.std.proofs.lemmas.List.Elements.{All-cons, All-contains, All-from_recursion, All-nil}
use Rattle.std.proofs.lemmas.List.Quantifiers.{position-Some}
use Rattle.std.proofs.lemmas.Slice.Eq.{bytes_eq-Decides}
use Rattle.wfc_blocks.proofs.CallerLemmas.{block_within}
use Rattle.wfc_blocks.specs.Blocks.{Area, block_at, block_count, blocks_of}
use Rattle.wfc_blocks.specs.CanvasView.{LiesWithin}
use Rattle.wfc_blocks.specs.Growth.{IsGrowable}
use Rattle.wfc_blocks.specs.declared.block.Block.{Block}
use Rattle.wfc_lists.proofs.Ranges.{each_in_row}
use Rattle.wfc_model.specs.Legal.{Pin}
use Rattle.wfc_outside.specs.Gives.{result_map}
use Rattle.wfc_overlap.proofs.CallerLemmas.{MeansPin, first_meant, meant_pin, pin_meant}
use Rattle.wfc_overlap.specs.Bridge.{window_pair_count}
use Rattle.wfc_overlap.specs.Built.{picture_pins, picture_problem, texts_of}
use Rattle.wfc_overlap.specs.Sample.{Output, problem_of_sample}
use Rattle.wfc_pattern.specs.Patterns.{IsPatterns, PatternsView}
use Rattle.wfc_picture.specs.Symbol.{is_shown, symbol_text}
use Rattle.wfc_picture.specs.declared.symbol.Symbol.{Symbol}
use Rattle.wfc_picture.specs.declared.symbol.Symbol.TheVariants.{Char}
use Rattle.wfc_pins.specs.InOrder.{and_rest}
use Rattle.wfc_pins.specs.PinView.{PinView}
use Rattle.wfc_pins.specs.declared.fault.BuildFault.{BuildFault}
use Rattle.wfc_pins.specs.declared.fault.BuildFault.TheVariants.{SizeBelowN, TooLarge}
use Rattle.wfc_problem.specs.declared.TheConstants.{MAX_PAIRS}
use Rattle.wfc_grow_command.specs.WrittenPins.{IsWrittenPin, numbered_from}

-- a line that means a pin can be written: its place is inside, and its symbol is one of the palette's
line_written : (palette : List Symbol) (width height : ℕ) (line : PinView) (pin : Pin) → All (λ symbol. IsTrue (is_shown symbol)) palette → width ≤ 2 ^ 32 → height ≤ 2 ^ 32
    → MeansPin (texts_of palette) width height line pin → IsWrittenPin line
line_written palette width height line pin shown wide high means =
    let blank : Symbol = Char 0x20 in
    let found = position-Some (λ text. bytes_eq text line.symbol) (texts_of palette) means.number [] means.place in
    let inside : means.number < length palette = subst (λ n. means.number < n) (length-map palette symbol_text) found.0 in
    let symbol = get_or palette means.number blank in
    let text : get_or (texts_of palette) means.number [] ≡ symbol_text symbol = get_or-map symbol_text palette means.number blank [] inside in
    record {
      x_in = omega (arith, means.column_in, wide);
      y_in = omega (arith, means.row_in, high);
      symbol = (symbol, record { shown = shown means.number blank inside; text = sym ((bytes_eq-Decides (get_or (texts_of palette) means.number []) line.symbol).0 found.1) ∙ text });
    }

-- so do all lines that mean pins
pub lines_written : (palette : List Symbol) (width height : ℕ) (lines : List PinView) (pins : List Pin) → All (λ symbol. IsTrue (is_shown symbol)) palette → width ≤ 2 ^ 32 → height ≤ 2 ^ 32
    → picture_pins (texts_of palette) width height lines ≡ Ok pins → All IsWrittenPin lines
lines_written palette width height [] pins shown wide high is = All-nil IsWrittenPin
lines_written palette width height (line ∷ lines) pins shown wide high is =
    let parts = first_meant (texts_of palette) width height line lines pins is in
    All-cons IsWrittenPin line lines
    (line_written palette width height line parts.pin shown wide high (pin_meant (texts_of palette) width height line parts.pin parts.first))
    (lines_written palette width height lines parts.rest shown wide high parts.later)

-- lines with other numbers mean the same pins
pub lines_renumbered : (texts : List (List ℕ)) (width height n : ℕ) (lines : List PinView) (pins : List Pin) → picture_pins texts width height lines ≡ Ok pins → picture_pins texts width height (numbered_from n lines) ≡ Ok pins
lines_renumbered texts width height n [] pins is = is
lines_renumbered texts width height n (line ∷ lines) pins is =
    let parts = first_meant texts width height line lines pins is in
    let means = pin_meant texts width height line parts.pin parts.first in
    let again = meant_pin texts width height (record line { line = n }) parts.pin (record { number = means.number; column_in = means.column_in; row_in = means.row_in; place = means.place; is = means.is }) in
    ap (λ r. and_rest r (picture_pins texts width height (numbered_from (n + 1) lines))) again
    ∙ ap (and_rest (Ok parts.pin)) (lines_renumbered texts width height (n + 1) lines parts.rest parts.later)
    ∙ ap Ok parts.is

-- and make the same problem
pub problem_renumbered : (patterns : PatternsView) (palette : List Symbol) (output : Output) (n : ℕ) (lines : List PinView) (pins : List Pin) → picture_pins (texts_of palette) output.width output.height lines ≡ Ok pins
    → picture_problem patterns palette output (numbered_from n lines) ≡ picture_problem patterns palette output lines
problem_renumbered patterns palette output n lines pins is =
    ap (λ (r : Result (List Pin) BuildFault). result_map (problem_of_sample patterns output)
    (if nat_lt output.width patterns.n || nat_lt output.height patterns.n then Err SizeBelowN
    else (if nat_lt MAX_PAIRS (window_pair_count patterns output) then Err (TooLarge (window_pair_count patterns output)) else r)))
    (lines_renumbered (texts_of palette) output.width output.height n lines pins is ∙ sym is)

-- a block of an area that can be grown lies in it
pub stuck_within : (patterns : PatternsView) (area : Area) (block : Block) → IsPatterns patterns → IsGrowable patterns area → Contains (blocks_of patterns.n area) block → LiesWithin area.width area.height block
stuck_within patterns area block taught growable among =
    All-contains (LiesWithin area.width area.height) (blocks_of patterns.n area) block
    (All-from_recursion (LiesWithin area.width area.height) (blocks_of patterns.n area)
    (each_in_row (LiesWithin area.width area.height) (λ k. block_at patterns.n area k) 0 (block_count patterns.n area)
    (λ k _ inside. block_within patterns.n area k (omega arith) taught.some_side growable.long growable.wide growable.high))) among
