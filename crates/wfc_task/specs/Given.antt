-- Tasks over files that are told, in the subject's words.
use Rattle.std.specs.Prelude.{All, Bool, List, None, Ok, Option, Some, [], false, true, ℕ, ◌*◌, ◌<◌, ◌≡◌, ◌≤◌}
use Rattle.wfc_grid.specs.Grid.{GridView}
use Rattle.wfc_grid.specs.Spelling.{SpellsGrid}
use Rattle.wfc_model.specs.Legal.{Pin}
use Rattle.wfc_model.specs.Raster.{Raster}
use Rattle.wfc_outside.specs.Folder.{File}
use Rattle.wfc_overlap.specs.Bridge.{IsRoom}
use Rattle.wfc_overlap.specs.Built.{picture_pins, texts_of}
use Rattle.wfc_overlap.specs.Sample.{output_with, problem_of_sample}
use Rattle.wfc_pattern.specs.Learning.{patterns_of}
use Rattle.wfc_pattern.specs.Patterns.{PatternsView}
use Rattle.wfc_picture.specs.Palette.{picture_and_palette}
use Rattle.wfc_picture.specs.declared.symbol.Kind.{Kind}
use Rattle.wfc_picture.specs.declared.symbol.Symbol.{Symbol}
use Rattle.wfc_pins.specs.PinView.{PinView}
use Rattle.wfc_pins.specs.Pins.{pins_of}
use Rattle.wfc_plan.specs.Files.{IsFile}
use Rattle.wfc_ppm.specs.Ppm.{PpmView}
use Rattle.wfc_ppm.specs.Reading.{ppm_of}
use Rattle.wfc_ppm.specs.Spelling.{SpellsPpm}
use Rattle.wfc_problem.specs.Network.{Network}
use Rattle.wfc_task.specs.Sampled.{SampledView, shown_by_grid, shown_by_ppm}
use Rattle.wfc_task.specs.Sources.{window_side_of}
use Rattle.wfc_tileset.specs.Document.{is_ppm_name}
use Rattle.wfc_words.specs.RequestView.{RequestView}

-- the bytes spell a grid, within the limit of a grid, that shows this
pub record ShowsGrid (bytes : List ℕ) (sampled : SampledView) : Type 0 where
  pub grid : GridView
  pub spelled : SpellsGrid bytes grid
  pub small : grid.width * grid.height ≤ 1048576
  pub shows : sampled ≡ shown_by_grid grid

-- the bytes are read as a picture of colours, within the limit of a picture, that shows this; numbers below 256 spell it
pub record ShowsPpm (bytes : List ℕ) (sampled : SampledView) : Type 0 where
  pub ppm : PpmView
  pub read : ppm_of bytes ≡ Ok ppm
  pub spelled : All (λ byte. byte < 256) bytes → SpellsPpm bytes ppm
  pub small : ppm.width * ppm.height ≤ 1048576
  pub shows : sampled ≡ shown_by_ppm ppm

-- the bytes show this, as a picture of colours or as a grid
abbrev pub Shows : Bool → List ℕ → SampledView → Type 0
Shows true bytes sampled = ShowsPpm bytes sampled
Shows false bytes sampled = ShowsGrid bytes sampled

-- the file of that name shows this
pub record IsSampleFile (files : List File) (name : List ℕ) (sampled : SampledView) : Type 0 where
  pub bytes : List ℕ
  pub file : IsFile files name bytes
  pub shows : Shows (is_ppm_name name) bytes sampled

-- the file asked for shows symbols of this kind, which have this palette, and whose numbers teach
-- these patterns by the request
pub record IsSample (asked : RequestView) (files : List File) (kind : Kind)
    (patterns : PatternsView) (palette : List Symbol) : Type 0 where
  pub sampled : SampledView
  pub file : IsSampleFile files asked.file sampled
  pub same_kind : sampled.kind ≡ kind
  pub picture : Raster
  pub numbered : picture_and_palette sampled.symbols sampled.width ≡ Ok (picture, palette)
  pub learned : patterns_of picture (window_side_of asked.source) asked.symmetry asked.wrap_in ≡ Ok patterns

-- whatever the kind of its symbols is
abbrev pub IsTaught : RequestView → List File → PatternsView → List Symbol → Type 0
IsTaught asked files patterns palette = (kind : Kind) × IsSample asked files kind patterns palette

-- the pins file has these lines; there are none where no file is named
abbrev pub HoldsPins : List File → Option (List ℕ) → List PinView → Type 0
HoldsPins files None lines = [] ≡ lines
HoldsPins files (Some name) lines = (bytes : List ℕ) × IsFile files name bytes × (pins_of bytes ≡ Ok lines)

-- the problem of these patterns, for the output asked for and the pins that the lines of the pins file mean
pub record IsProblemOf (asked : RequestView) (files : List File) (patterns : PatternsView)
    (palette : List Symbol) (P : Network) : Type 0 where
  pub lines : List PinView
  pub held : HoldsPins files asked.pins lines
  pub room : IsRoom patterns (output_with asked.width asked.height asked.wrap_out)
  pub pins : List Pin
  pub meant : picture_pins (texts_of palette) asked.width asked.height lines ≡ Ok pins
  pub problem : P ≡ problem_of_sample patterns (output_with asked.width asked.height asked.wrap_out) pins
