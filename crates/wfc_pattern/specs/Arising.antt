-- The images that arise in a sample, as the list of arising windows is made up.
use Rattle.std.specs.Prelude.{ℕ, List, map}
use Rattle.std.specs.List.{flat_map, range_with_len}
use Rattle.wfc_model.specs.Raster.{Raster}
use Rattle.wfc_model.specs.Window.{window}
use Rattle.wfc_model.specs.Image.{image}

-- the first s images of the window at a place
abbrev pub images_at : Raster → ℕ → ℕ → ℕ × ℕ → List (List ℕ)
images_at sample n s place = map (image n (window sample place.0 place.1 n)) (range_with_len 0 s)

-- the images at the first places of a row
abbrev pub images_in_row : Raster → ℕ → ℕ → ℕ → ℕ → List (List ℕ)
images_in_row sample n s columns y = flat_map (images_at sample n s) (map (λ x. (x, y)) (range_with_len 0 columns))
