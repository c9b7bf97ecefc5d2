-- Which symbols a picture of a kind can show.
use Rattle.std.specs.Prelude.{Bool, false}
use Rattle.wfc_grid.specs.Grid.{is_grid_byte}
use Rattle.wfc_picture.specs.declared.symbol.Kind.{Kind}
use Rattle.wfc_picture.specs.declared.symbol.Kind.TheVariants as kinds
use Rattle.wfc_picture.specs.declared.symbol.Symbol.{Symbol}
use Rattle.wfc_picture.specs.declared.symbol.Symbol.TheVariants.{Char, Rgb}
use Rattle.wfc_ppm.specs.Ppm.{is_within}

-- whether a picture of this kind can show the symbol
abbrev pub is_of_kind : Kind → Symbol → Bool
is_of_kind kinds.Grid (Char byte) = is_grid_byte byte
is_of_kind (kinds.Ppm maxval) (Rgb colour) = is_within maxval colour
is_of_kind _ _ = false
