-- Small pinned problems without symmetry, on which laws try the definitions.
use Rattle.std.specs.Prelude.{ℕ, Bool, true, false, not, List, [], ◌∷◌, codes}
use Rattle.wfc_model.specs.Legal.{banned_pin, kept_pin}
use Rattle.wfc_overlap.specs.Small.{window_pin_line as sample_line, three_by_two, two_patterns}
use Rattle.wfc_pins.specs.PinView.{PinView}
use Rattle.wfc_problem.specs.Network.{Network}
use Rattle.wfc_search.specs.Small.{pair, ring}
use Rattle.wfc_tiled.specs.Small.{line_and_cross, tile_pin_line as tile_line, two_holes}
use Rattle.wfc_explain.specs.Pinned.{PinnedView}
use Rattle.wfc_explain.specs.Problems.{SamplePins, TilesPins}
use Rattle.wfc_explain.specs.Trials.{TrialView}
use Rattle.wfc_explain.specs.declared.explained.Kept.{Kept}
use Rattle.wfc_explain.specs.declared.explained.Mark.{Mark}

-- of two cells that differ, with lines that keep value 0 and value 1 at the first, and value 1 at
-- the second
abbrev pub two_cells_with : List Bool → Network
two_cells_with (zero ∷ one ∷ other ∷ []) =
    record pair { base = not one ∷ not zero ∷ not other ∷ true ∷ [] }
two_cells_with _ = pair

-- with all three lines
abbrev pub three_lines : PinnedView
three_lines = record { lines = 3; problem_of = two_cells_with }

-- where the first of them is always kept, with the second and the last
abbrev pub after_the_first : List Bool → Network
after_the_first (one ∷ other ∷ []) = two_cells_with (true ∷ one ∷ other ∷ [])
after_the_first _ = pair

-- with these two lines
abbrev pub two_more_lines : PinnedView
two_more_lines = record { lines = 2; problem_of = after_the_first }

-- where the second is kept exactly if it is left out: no pinned problem is so
abbrev pub turned_after_the_first : List Bool → Network
turned_after_the_first (one ∷ other ∷ []) = two_cells_with (true ∷ not one ∷ other ∷ [])
turned_after_the_first _ = pair

-- with these two lines
abbrev pub two_turned_lines : PinnedView
two_turned_lines = record { lines = 2; problem_of = turned_after_the_first }

-- of three cells in a ring that differ, with a line that bans value 1 from the second
abbrev pub ring_with : List Bool → Network
ring_with (banned ∷ []) = record ring { base = true ∷ true ∷ true ∷ not banned ∷ true ∷ true ∷ [] }
ring_with _ = ring

-- with this line
abbrev pub one_line : PinnedView
one_line = record { lines = 1; problem_of = ring_with }

-- a problem without lines
abbrev pub no_lines : Network → PinnedView
no_lines P = record { lines = 0; problem_of = λ keep. P }

-- a line that is kept
abbrev pub one_kept : ℕ → Mark → Kept
one_kept index mark = record { index = index; mark = mark }

-- an output of three by two with a line that keeps a blank and one that bans a colour
abbrev pub two_sample_lines : SamplePins
two_sample_lines = record {
  patterns = two_patterns;
  output = three_by_two;
  pins = kept_pin 1 0 1 ∷ banned_pin 2 1 0 ∷ [];
}

-- a map with holes and two lines
abbrev pub two_tile_lines : TilesPins
two_tile_lines = record {
  tiles = line_and_cross;
  mask = two_holes;
  wrap = false;
  pins = kept_pin 0 1 1 ∷ banned_pin 2 0 2 ∷ [];
}

-- line 4 of a pins file keeps a blank in the second column of the first row
abbrev pub blank_line : PinView
blank_line = sample_line 4 true 1 0 (codes "\\s")

-- line 4 of a pins file keeps a straight line after a quarter turn in this column and row
abbrev pub turned_line : ℕ → ℕ → PinView
turned_line x y = tile_line 4 true x y (codes "line/1")

-- of three lines the second alone, the first two, and the first and the last
abbrev pub three_choices : List (List Bool)
three_choices = (false ∷ true ∷ false ∷ []) ∷ (true ∷ true ∷ false ∷ []) ∷ (true ∷ false ∷ true ∷ []) ∷ []

-- of three lines the first two are still kept, and these stay
abbrev pub two_of_three : List Kept → TrialView
two_of_three core = record { keep = true ∷ true ∷ false ∷ []; core = core }
