-- Which variants the flags of a base leave at a cell.
use Rattle.std.specs.Prelude.{ℕ, Bool, List, Option, slice_index}
use Rattle.wfc_model.specs.Legal.{Pin}
use Rattle.wfc_places.specs.Steps.{place_number}
use Rattle.wfc_tiled.specs.Mask.{MaskView, cell_number}
use Rattle.wfc_tiled.specs.Tiles.{variant_meets_pins}

-- whether a variant at the place of a cell meets all pins and bans
abbrev pub meets_at : MaskView → List Pin → ℕ → ℕ → Bool
meets_at mask pins c v = variant_meets_pins mask.width pins (slice_index mask.places c) v

-- the cell of a pin's place, if there is one
abbrev pub cell_of_mark : MaskView → Pin → Option ℕ
cell_of_mark mask pin = cell_number mask (place_number mask.width pin.column pin.row)
