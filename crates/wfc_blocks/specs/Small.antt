-- A small area, a canvas without symmetry, texts and patterns that the laws speak of.
use Rattle.std.specs.Prelude.{ℕ, ◌+◌, true, false, List, [], ◌∷◌, codes, map}
use Rattle.std.specs.List.{range_with_len}
use Rattle.wfc_model.specs.Legal.{Pin, banned_pin, kept_pin}
use Rattle.wfc_model.specs.Raster.{Raster, raster_of}
use Rattle.wfc_pattern.specs.Patterns.{PatternsView}
use Rattle.wfc_picture.specs.declared.symbol.Symbol.{Symbol}
use Rattle.wfc_picture.specs.declared.symbol.Symbol.TheVariants.{Char}
use Rattle.wfc_overlap.specs.Small.{window_pin_line}
use Rattle.wfc_pins.specs.PinView.{PinView}
use Rattle.wfc_blocks.specs.Blocks.{Area, area_with, block_at}
use Rattle.wfc_blocks.specs.declared.block.Block.{Block}
use Rattle.wfc_blocks.specs.Canvas.{Canvas, empty_canvas, with_block}
use Rattle.wfc_blocks.specs.Grown.{terms_with}
use Rattle.wfc_blocks.specs.Growth.{Terms}
use Rattle.wfc_blocks.specs.StuckView.{StuckView}
use Rattle.wfc_search.specs.Small.{scanline}

-- five columns and four rows in blocks of three
abbrev pub five_by_four : Area
five_by_four = area_with 5 4 3

-- the block with this number, first pixel and sides
abbrev pub block_with : ℕ → ℕ → ℕ → ℕ → ℕ → Block
block_with number x y width height =
    record { number = number; x = x; y = y; width = width; height = height }

-- nine numbers in three rows
abbrev pub nine_set : Raster
nine_set = raster_of 3 3 (11 ∷ 12 ∷ 13 ∷ 14 ∷ 15 ∷ 16 ∷ 17 ∷ 18 ∷ 19 ∷ [])

-- the first block of three by three is set to them
abbrev pub first_set : Canvas
first_set = with_block empty_canvas (block_at 2 five_by_four 0) nine_set

-- the letters from `a` to `t`, each a text
abbrev pub twenty_texts : List (List ℕ)
twenty_texts = map (λ k. (97 + k) ∷ []) (range_with_len 0 20)

-- two lines of a pins file: the first bans a letter, and the second keeps one
abbrev pub two_file_lines : List PinView
two_file_lines = window_pin_line 7 false 4 1 (codes "z") ∷ window_pin_line 8 true 1 3 (codes "a") ∷ []

-- the letters `a` and `b`
abbrev pub two_letters : List Symbol
two_letters = Char 97 ∷ Char 98 ∷ []

-- the checkerboard of two by two that begins with `a`, and the one that begins with `b`
abbrev pub two_boards : PatternsView
two_boards = record {
  n = 2;
  windows = (0 ∷ 1 ∷ 1 ∷ 0 ∷ []) ∷ (1 ∷ 0 ∷ 0 ∷ 1 ∷ []) ∷ [];
  weights = 2 ∷ 2 ∷ [];
}

-- the first of them alone
abbrev pub one_board : PatternsView
one_board = record { n = 2; windows = (0 ∷ 1 ∷ 1 ∷ 0 ∷ []) ∷ []; weights = 1 ∷ [] }

-- as many windows of one pixel, each with a number of its own
abbrev pub lone_pixels : ℕ → PatternsView
lone_pixels count = record {
  n = 1;
  windows = map (λ k. k ∷ []) (range_with_len 0 count);
  weights = map (λ k. k + 1) (range_with_len 0 count);
}

-- a ban and a pin of the area
abbrev pub two_pins : List Pin
two_pins = banned_pin 4 1 7 ∷ kept_pin 1 3 5 ∷ []

-- the same, and a pin where two blocks meet
abbrev pub three_pins : List Pin
three_pins = banned_pin 4 1 7 ∷ kept_pin 1 3 5 ∷ kept_pin 2 2 9 ∷ []

-- the lines of the block to the right: its first column is set, and the file bans a letter in it
abbrev pub right_block_lines : List PinView
right_block_lines =
    window_pin_line 0 true 0 0 (codes "n") ∷ window_pin_line 0 true 0 1 (codes "q")
    ∷ window_pin_line 0 true 0 2 (codes "t") ∷ window_pin_line 7 false 2 1 (codes "z") ∷ []

-- a line of a pins file that makes the first pixel an `a`
abbrev pub first_is_a : List PinView
first_is_a = window_pin_line 1 true 0 0 (codes "a") ∷ []

-- the second block of a row, stuck at a first column of `b` above `a`
abbrev pub stuck_board : StuckView
stuck_board = record {
  block = block_with 1 1 0 2 2;
  pins = window_pin_line 0 true 0 0 (codes "b") ∷ window_pin_line 0 true 0 1 (codes "a") ∷ [];
}

-- three by two pixels in two blocks, by one board alone
abbrev pub one_board_terms : Terms
one_board_terms = terms_with one_board scanline 0 7 []

-- the first of these blocks is set to the board
abbrev pub board_set : Canvas
board_set = with_block empty_canvas (block_with 0 0 0 2 2) (raster_of 2 2 (0 ∷ 1 ∷ 1 ∷ 0 ∷ []))

-- five windows of two by two, by which no picture of three by three has 2 at the lower left and 0 in the middle and at the
-- other corners, though two of them fit at each place
abbrev pub five_windows : PatternsView
five_windows = record {
  n = 2;
  windows =
      (0 ∷ 0 ∷ 0 ∷ 0 ∷ []) ∷ (0 ∷ 1 ∷ 1 ∷ 0 ∷ []) ∷ (1 ∷ 0 ∷ 0 ∷ 1 ∷ []) ∷ (0 ∷ 0 ∷ 2 ∷ 1 ∷ [])
      ∷ (1 ∷ 0 ∷ 2 ∷ 0 ∷ []) ∷ [];
  weights = 1 ∷ 1 ∷ 1 ∷ 1 ∷ 1 ∷ [];
}

-- growth by them with these pins and no retraction
abbrev pub five_terms : Terms
five_terms =
    terms_with five_windows scanline 0 7
    (kept_pin 0 0 0 ∷ kept_pin 2 0 0 ∷ kept_pin 1 1 0 ∷ kept_pin 0 2 2 ∷ kept_pin 2 2 0 ∷ [])
