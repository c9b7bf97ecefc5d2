-- Pictures and assignments: the numbers of a picture's windows, and the picture that an assignment
-- paints.
use Rattle.std.specs.Prelude.{◌≡◌, ℕ, ◌+◌, ◌-◌, ◌*◌, ◌<◌, ◌≤◌, Bool, List, length, map, min, slice_index, nat_eq, All}
use Rattle.std.specs.List.{range_with_len, position_or_len}
use Rattle.wfc_model.specs.Raster.{Raster}
use Rattle.wfc_model.specs.Window.{window, places, starts}
use Rattle.std.specs.Cmp.Lexicographic.{pointwise}
use Rattle.wfc_model.specs.Learned.{learned}
use Rattle.wfc_model.specs.Legal.{IsLegalPicture, Rules, Pin}
use Rattle.wfc_pattern.specs.Patterns.{PatternsView, window_at}
use Rattle.wfc_problem.specs.declared.TheConstants.{MAX_PAIRS}
use Rattle.wfc_problem.specs.Assignment.{IsLegalAssignment}
use Rattle.wfc_places.specs.Steps.{place_number}
use Rattle.wfc_overlap.specs.Sample.{Output, problem_of_sample}

-- how many pairs of a place and a pattern there are
abbrev pub window_pair_count : PatternsView → Output → ℕ
window_pair_count patterns output =
    length (places output.width output.height patterns.n output.wrap) * length patterns.windows

-- an output that has room for a window, and few enough pairs of a place and a pattern
pub record IsRoom (patterns : PatternsView) (output : Output) : Type 0 where
  pub wide : patterns.n ≤ output.width
  pub high : patterns.n ≤ output.height
  pub few_pairs : window_pair_count patterns output ≤ MAX_PAIRS

-- the number of a window: that of the first pattern that is it
abbrev pub pattern_number : PatternsView → List ℕ → ℕ
pattern_number patterns w = position_or_len (pointwise nat_eq w) patterns.windows

-- the numbers of a picture's windows, place by place
abbrev pub numbers_of_windows : PatternsView → Output → Raster → List ℕ
numbers_of_windows patterns output m =
    map (λ (place : ℕ × ℕ). pattern_number patterns (window m place.0 place.1 patterns.n))
    (places output.width output.height patterns.n output.wrap)

-- the last column of places whose windows reach a pixel's column, which is its own but near an end
-- that doesn't wrap; likewise the row
abbrev pub nearest : ℕ → ℕ → Bool → ℕ → ℕ
nearest side n wrap at = min at (starts side n wrap - 1)

-- the number of a pixel: what the pattern of the nearest place has there
abbrev pub pixel_of : PatternsView → Output → List ℕ → ℕ → ℕ → ℕ
pixel_of patterns output a x y =
    let u = nearest output.width patterns.n output.wrap x in
    let v = nearest output.height patterns.n output.wrap y in
    let cell = place_number (starts output.width patterns.n output.wrap) u v in
    slice_index (window_at patterns (slice_index a cell)) ((y - v) * patterns.n + (x - u))

-- the numbers of row y
abbrev pub picture_row : PatternsView → Output → List ℕ → ℕ → List ℕ
picture_row patterns output a y =
    map (λ x. pixel_of patterns output a x y) (range_with_len 0 output.width)

-- the picture that an assignment of patterns to places paints
abbrev pub picture_of : PatternsView → Output → List ℕ → Raster
picture_of patterns output a = record {
  width = output.width;
  rows = map (λ y. picture_row patterns output a y) (range_with_len 0 output.height);
}

-- the patterns are those that a sample teaches by the rules, and the output wraps as they say
pub record IsTaughtBy (sample : Raster) (rules : Rules) (patterns : PatternsView) (output : Output)
    : Type 0 where
  pub same_side : patterns.n ≡ rules.n
  pub same_wrap : output.wrap ≡ rules.wrap_out
  pub windows : patterns.windows ≡ learned sample rules.n rules.symmetry rules.wrap_in

-- each pin's place is inside the output
abbrev pub AreInside : Output → List Pin → Type 0
AreInside output pins =
    All (λ pin. (pin.column < output.width) × (pin.row < output.height)) pins

-- an assignment is legal for the problem of these patterns, this output and these pins
abbrev pub IsSampleAssignment : PatternsView → Output → List Pin → List ℕ → Type 0
IsSampleAssignment patterns output pins a =
    IsLegalAssignment (problem_of_sample patterns output pins) a

-- a picture is legal as this output, by a sample, its rules and these pins
abbrev pub IsLegalOutput : Raster → Rules → List Pin → Output → Raster → Type 0
IsLegalOutput sample rules pins output m =
    IsLegalPicture sample rules pins output.width output.height m

-- the window of a picture at each place is the pattern assigned to it
abbrev pub HasWindowsOf : PatternsView → Output → List ℕ → Raster → Type 0
HasWindowsOf patterns output a m =
    let columns = starts output.width patterns.n output.wrap in
    (x y : ℕ) → x < columns → y < starts output.height patterns.n output.wrap
    → window m x y patterns.n ≡ window_at patterns (slice_index a (place_number columns x y))

-- the picture is legal for each sample that teaches the patterns and all pins inside, where the
-- assignment is legal for their problem
abbrev pub IsLegalPictureWith : PatternsView → Output → List ℕ → Raster → Type 0
IsLegalPictureWith patterns output a m =
    (sample : Raster) (rules : Rules) (pins : List Pin) → IsRoom patterns output
    → IsTaughtBy sample rules patterns output → AreInside output pins
    → IsLegalAssignment (problem_of_sample patterns output pins) a
    → IsLegalPicture sample rules pins output.width output.height m

-- where the assignment is legal for the problem of some pins, the picture has the assigned windows
abbrev pub ShowsAssigned : PatternsView → Output → List ℕ → Raster → Type 0
ShowsAssigned patterns output a m =
    (pins : List Pin) → IsRoom patterns output
    → IsLegalAssignment (problem_of_sample patterns output pins) a
    → HasWindowsOf patterns output a m
