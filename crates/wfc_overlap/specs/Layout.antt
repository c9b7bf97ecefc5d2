-- What a layout is of, and where a step leads in it.
use Rattle.std.specs.Prelude.{ℕ, List, map, Option, Some}
use Rattle.std.specs.List.{range_with_len}
use Rattle.wfc_problem.specs.declared.TheConstants.{NO_CELL}
use Rattle.wfc_places.specs.Steps.{place_number}
use Rattle.wfc_overlap.specs.Sample.{Output}
use Rattle.wfc_overlap.specs.declared.layout.Layout.{Layout}

-- the output that is laid out
abbrev pub output_of : Layout → Output
output_of layout = record { width = layout.width; height = layout.height; wrap = layout.wrap }

-- the cell in a column and a row, if both are there
abbrev pub cell_in : ℕ → Option ℕ → Option ℕ → ℕ
cell_in columns (Some x) (Some y) = place_number columns x y
cell_in columns _ _ = NO_CELL

-- the places in row y
abbrev pub row_places : ℕ → ℕ → List (ℕ × ℕ)
row_places columns y = map (λ x. (x, y)) (range_with_len 0 columns)
