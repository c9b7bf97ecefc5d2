-- The two pinned problems: that of a sample and that of a tile set.
use Rattle.std.specs.Prelude.{◌≡◌, ◌≤◌, Bool, List, length, Result, Ok}
use Rattle.wfc_model.specs.Legal.{Pin}
use Rattle.wfc_model.specs.declared.TheConstants.{MAX_OUTPUT_SIDE}
use Rattle.wfc_outside.specs.Gives.{result_map}
use Rattle.wfc_overlap.specs.Bridge.{AreInside, IsRoom}
use Rattle.wfc_overlap.specs.Built as overlap
use Rattle.wfc_overlap.specs.Sample.{Output, problem_of_sample}
use Rattle.wfc_pattern.specs.Patterns.{PatternsView, IsPatterns}
use Rattle.wfc_picture.specs.declared.symbol.Symbol.{Symbol}
use Rattle.wfc_pins.specs.PinView.{PinView}
use Rattle.wfc_pins.specs.declared.fault.BuildFault.{BuildFault}
use Rattle.wfc_problem.specs.declared.TheConstants.{MAX_PAIRS}
use Rattle.wfc_tiled.specs.Built as tiled
use Rattle.wfc_tiled.specs.Maps.{ArePlaced}
use Rattle.wfc_tiled.specs.Mask.{MaskView, IsMask}
use Rattle.wfc_tiled.specs.Tiles.{problem_of_tiles}
use Rattle.wfc_tileset.specs.Tiles.{TileSetView}
use Rattle.wfc_tileset.specs.TileSets.{IsTileSet}
use Rattle.wfc_explain.specs.KeptLines.{kept_of}
use Rattle.wfc_explain.specs.Pinned.{PinnedView}

-- ---- a sample

-- learned patterns, an output, and what the lines mean that can be left out
pub record SamplePins : Type 0 where
  pub patterns : PatternsView
  pub output : Output
  pub pins : List Pin

-- of the lines of a pins file, but for the faults of the problem of all lines
abbrev pub sample_pins : PatternsView → List Symbol → Output → List PinView → Result SamplePins BuildFault
sample_pins patterns palette output lines =
    result_map (λ pins. record { patterns = patterns; output = output; pins = pins })
    (overlap.checked_picture_pins patterns palette output lines)

-- the problem of the lines that are kept: that of the sample with their pins
abbrev pub pinned_sample : SamplePins → PinnedView
pinned_sample s = record {
  lines = length s.pins;
  problem_of = λ keep. problem_of_sample s.patterns s.output (kept_of keep s.pins);
}

-- patterns, an output of a map's sides that has room for a window, and pins that lie inside, no more than 32 bits can count
pub record IsSamplePins (s : SamplePins) : Type 0 where
  pub patterns_are : IsPatterns s.patterns
  pub room : IsRoom s.patterns s.output
  pub width_limit : s.output.width ≤ MAX_OUTPUT_SIDE
  pub height_limit : s.output.height ≤ MAX_OUTPUT_SIDE
  pub inside : AreInside s.output s.pins
  pub few_lines : length s.pins ≤ 4294967295

-- ---- a tile set

-- a tile set, a mask, whether the map wraps, and what the lines mean that can be left out
pub record TilesPins : Type 0 where
  pub tiles : TileSetView
  pub mask : MaskView
  pub wrap : Bool
  pub pins : List Pin

-- of the lines of a pins file, but for the faults of the problem of all lines
abbrev pub tiles_pins : TileSetView → MaskView → Bool → List PinView → Result TilesPins BuildFault
tiles_pins tiles mask wrap lines =
    result_map (λ pins. record { tiles = tiles; mask = mask; wrap = wrap; pins = pins })
    (tiled.checked_tile_map_pins tiles mask lines)

-- the problem of the lines that are kept: that of the tile set with their pins
abbrev pub pinned_tiles : TilesPins → PinnedView
pinned_tiles s = record {
  lines = length s.pins;
  problem_of = λ keep. problem_of_tiles s.tiles s.mask s.wrap (kept_of keep s.pins);
}

-- a tile set and a mask with few enough pairs of a place and a variant, and pins that each lie at a place, no more than 32
-- bits can count
pub record IsTilesPins (s : TilesPins) : Type 0 where
  pub tiles_are : IsTileSet s.tiles
  pub mask_is : IsMask s.mask
  pub few_pairs : tiled.tile_pair_count s.tiles s.mask ≤ MAX_PAIRS
  pub placed : ArePlaced s.mask s.pins
  pub few_lines : length s.pins ≤ 4294967295

-- ---- lines that are kept

-- this holds of what the lines of a pins file mean for a sample
abbrev pub HoldsOfSamplePins : (PatternsView → List Symbol → Output → List PinView → SamplePins → Type 0) → Type 0
HoldsOfSamplePins Holds =
    (patterns : PatternsView) (palette : List Symbol) (output : Output) (lines : List PinView) (s : SamplePins)
    → sample_pins patterns palette output lines ≡ Ok s → Holds patterns palette output lines s

-- the problem that is built of the lines that are kept is that of their pins
abbrev pub IsSampleKept : PatternsView → List Symbol → Output → List PinView → SamplePins → Type 0
IsSampleKept patterns palette output lines s =
    (keep : List Bool)
    → overlap.picture_problem patterns palette output (kept_of keep lines) ≡ Ok ((pinned_sample s).problem_of keep)

-- this holds of what the lines of a pins file mean for a tile set
abbrev pub HoldsOfTilesPins : (TileSetView → MaskView → Bool → List PinView → TilesPins → Type 0) → Type 0
HoldsOfTilesPins Holds =
    (tiles : TileSetView) (mask : MaskView) (wrap : Bool) (lines : List PinView) (s : TilesPins)
    → tiles_pins tiles mask wrap lines ≡ Ok s → Holds tiles mask wrap lines s

-- the problem that is built of the lines that are kept is that of their pins
abbrev pub IsTilesKept : TileSetView → MaskView → Bool → List PinView → TilesPins → Type 0
IsTilesKept tiles mask wrap lines s =
    (keep : List Bool)
    → tiled.tile_map_problem tiles mask wrap (kept_of keep lines) ≡ Ok ((pinned_tiles s).problem_of keep)
