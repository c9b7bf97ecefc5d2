-- The constraint problem of a sample: a cell for each place of the output, and the learned patterns
-- as values.
use Rattle.std.specs.Prelude.{ℕ, ◌+◌, ◌*◌, ◌%◌, ◌==◌, Bool, not, ◌&&◌, ◌||◌, List, length, map, filter, slice_index, if◌then◌else◌}
use Rattle.std.specs.List.{flat_map, list_all, range_with_len}
use Rattle.wfc_model.specs.Direction.{left_by, down_by, right_by, up_by}
use Rattle.wfc_model.specs.Window.{places, starts}
use Rattle.wfc_model.specs.Legal.{Pin}
use Rattle.wfc_pattern.specs.Agreement.{agrees}
use Rattle.wfc_pattern.specs.Patterns.{PatternsView, window_at}
pub use Rattle.wfc_places.specs.Marks.{suits}
pub use Rattle.wfc_places.specs.Steps.{place_number, is_there, step_end}
use Rattle.wfc_problem.specs.Network.{Network}
use Rattle.wfc_problem.specs.declared.TheConstants.{NO_CELL}

-- an output: how wide and high it is, and whether it wraps
pub record Output : Type 0 where
  pub width : ℕ
  pub height : ℕ
  pub wrap : Bool

-- the output with these sides
abbrev pub output_with : ℕ → ℕ → Bool → Output
output_with width height wrap = record { width = width; height = height; wrap = wrap }

-- the cell beside a place in a direction, where there is one
abbrev pub window_beside : ℕ → Output → ℕ × ℕ → ℕ → ℕ
window_beside n output place d =
    let columns = starts output.width n output.wrap in
    let rows = starts output.height n output.wrap in
    if is_there columns output.wrap (right_by d) (left_by d) place.0
    && is_there rows output.wrap (down_by d) (up_by d) place.1
    then place_number columns (step_end columns (right_by d) (left_by d) place.0)
    (step_end rows (down_by d) (up_by d) place.1)
    else NO_CELL

-- the cells beside a place, direction by direction
abbrev pub places_beside : ℕ → Output → ℕ × ℕ → List ℕ
places_beside n output place = map (λ d. window_beside n output place d) (range_with_len 0 4)

-- the cells beside each place
abbrev pub window_neighbour_table : ℕ → Output → List ℕ
window_neighbour_table n output =
    flat_map (λ place. places_beside n output place)
    (places output.width output.height n output.wrap)

-- the patterns that agree with p in a direction, rising
abbrev pub agreeing_patterns : PatternsView → ℕ → ℕ → List ℕ
agreeing_patterns patterns p d =
    filter (λ q. agrees patterns.n (window_at patterns p) (window_at patterns q) d)
    (range_with_len 0 (length patterns.windows))

-- the patterns that agree with p, direction by direction
abbrev pub all_agreeing : PatternsView → ℕ → List (List ℕ)
all_agreeing patterns p = map (λ d. agreeing_patterns patterns p d) (range_with_len 0 4)

-- the patterns that agree with each
abbrev pub agreement_table : PatternsView → List (List ℕ)
agreement_table patterns =
    flat_map (λ p. all_agreeing patterns p) (range_with_len 0 (length patterns.windows))

-- whether the number in column i and row j of a window at a place suits a pin, where it stands on
-- the pin's pixel
abbrev pub window_suits_at : ℕ → Output → ℕ × ℕ → List ℕ → Pin → ℕ → ℕ → Bool
window_suits_at n output place w pin i j =
    not ((place.0 + i) % output.width == pin.column && (place.1 + j) % output.height == pin.row)
    || suits pin (slice_index w (j * n + i))

-- whether each number in column i of a window suits it
abbrev pub suits_in_column : ℕ → Output → ℕ × ℕ → List ℕ → Pin → ℕ → Bool
suits_in_column n output place w pin i =
    list_all (λ j. window_suits_at n output place w pin i j) (range_with_len 0 n)

-- whether a window at a place meets a pin or a ban: each of its numbers suits it
abbrev pub is_met : ℕ → Output → ℕ × ℕ → List ℕ → Pin → Bool
is_met n output place w pin =
    list_all (λ i. suits_in_column n output place w pin i) (range_with_len 0 n)

-- whether it meets all of them
abbrev pub window_meets_pins : ℕ → Output → ℕ × ℕ → List ℕ → List Pin → Bool
window_meets_pins n output place w pins = list_all (λ pin. is_met n output place w pin) pins

-- for each place and window whether it meets them there
abbrev pub window_base_table : ℕ → Output → List (List ℕ) → List Pin → List Bool
window_base_table n output windows pins =
    flat_map (λ place. map (λ w. window_meets_pins n output place w pins) windows)
    (places output.width output.height n output.wrap)

-- a cell for each place of the output, row by row, beside it the places one step away, the patterns
-- with their weights, beside each the patterns that agree with it, and at each cell those that meet
-- the pins and bans
abbrev pub problem_of_sample : PatternsView → Output → List Pin → Network
problem_of_sample patterns output pins =
    record {
      cells = length (places output.width output.height patterns.n output.wrap);
      dirs = 4;
      neighbours = window_neighbour_table patterns.n output;
      weights = patterns.weights;
      supports = agreement_table patterns;
      base = window_base_table patterns.n output patterns.windows pins;
    }
