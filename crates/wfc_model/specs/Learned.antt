-- What a sample teaches: its patterns in the order of their first appearance, and how often each arises.
use Rattle.std.specs.Prelude.{ℕ, Bool, List, map, count_by, nat_eq}
use Rattle.std.specs.List.{flat_map, range_with_len}
use Rattle.std.specs.Cmp.Lexicographic.{pointwise}
use Rattle.wfc_lists.specs.WithoutRepeats.{without_repeats}
use Rattle.wfc_model.specs.Raster.{Raster, height_of}
use Rattle.wfc_model.specs.Window.{window, places}
use Rattle.wfc_model.specs.Image.{image}

-- every window of the sample, place by place, each in its first s images
abbrev pub arising : Raster → ℕ → ℕ → Bool → List (List ℕ)
arising sample n s wrap =
    flat_map (λ (place : ℕ × ℕ). map (image n (window sample place.0 place.1 n)) (range_with_len 0 s))
    (places sample.width (height_of sample) n wrap)

-- the patterns that the sample teaches: what arises, without later repeats; a pattern's number is its position
abbrev pub learned : Raster → ℕ → ℕ → Bool → List (List ℕ)
learned sample n s wrap = without_repeats (pointwise nat_eq) (arising sample n s wrap)

-- how often a window stands in a list
abbrev pub weight_of : List (List ℕ) → List ℕ → ℕ
weight_of ws w = count_by (pointwise nat_eq w) ws
