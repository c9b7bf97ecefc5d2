-- What a sample shows, whatever the format of its file.
use Rattle.std.specs.Prelude.{List, map, ℕ}
use Rattle.wfc_grid.specs.Grid.{GridView}
use Rattle.wfc_picture.specs.declared.symbol.Kind.{Kind}
use Rattle.wfc_picture.specs.declared.symbol.Kind.TheVariants as kinds
use Rattle.wfc_picture.specs.declared.symbol.Symbol.{Symbol}
use Rattle.wfc_picture.specs.declared.symbol.Symbol.TheVariants.{Char, Rgb}
use Rattle.wfc_ppm.specs.Ppm.{PpmView}
use Rattle.wfc_task.specs.declared.sampled.Sampled.{Sampled}

-- what the pixels show row by row, how wide the picture is, and how a map of it is written
pub record SampledView : Type 0 where
  pub kind : Kind
  pub width : ℕ
  pub symbols : List Symbol

-- what the code keeps of a sample
abbrev pub sampled_view : Sampled → SampledView
sampled_view sampled = record { kind = sampled.kind; width = sampled.width; symbols = sampled.symbols.items }

-- what the pixels of a grid show
abbrev pub symbols_of : GridView → List Symbol
symbols_of grid = map (λ byte. Char byte) grid.bytes

-- what a grid shows
abbrev pub shown_by_grid : GridView → SampledView
shown_by_grid grid = record { kind = kinds.Grid; width = grid.width; symbols = symbols_of grid }

-- what the pixels of a picture of colours show
abbrev pub shown_colours : PpmView → List Symbol
shown_colours ppm = map (λ colour. Rgb colour) ppm.pixels

-- what a picture of colours shows
abbrev pub shown_by_ppm : PpmView → SampledView
shown_by_ppm ppm = record { kind = kinds.Ppm ppm.maxval; width = ppm.width; symbols = shown_colours ppm }
