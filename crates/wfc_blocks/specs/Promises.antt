-- What growing promises in the words of maps: a map that is grown is legal, and a block at which it is stuck
-- admits none.
use Rattle.std.specs.Prelude.{◌≡◌, ℕ, ◌<◌, List, Some, length, All, Contains, IsTrue, Ok, ⊤}
use Rattle.std.specs.List.{IsDistinct}
use Rattle.wfc_model.specs.Legal.{Pin, Rules, IsLegalPicture}
use Rattle.wfc_model.specs.Raster.{Raster, number_at}
use Rattle.wfc_pattern.specs.Patterns.{IsPatterns, PatternsView}
use Rattle.wfc_picture.specs.Symbol.{is_shown, same_symbol}
use Rattle.wfc_picture.specs.declared.symbol.Symbol.{Symbol}
use Rattle.wfc_pins.specs.PinView.{PinView}
use Rattle.wfc_overlap.specs.Bridge.{AreInside, IsTaughtBy}
use Rattle.wfc_overlap.specs.Built.{picture_pins, picture_problem, texts_of}
use Rattle.wfc_search.specs.declared.Outcome.TheVariants.{Spent}
use Rattle.wfc_blocks.specs.Blocks.{Area, blocks_of, output_of_block, whole_of}
use Rattle.wfc_blocks.specs.Canvas.{Canvas, canvas_picture, lines_of_block, pins_of_block}
use Rattle.wfc_blocks.specs.Growth.{AreNumbersBelow, HasBlockOutcome, IsGrowable, IsSetBefore, IsStoppedAt, Terms, full, growth_of}
use Rattle.wfc_blocks.specs.Growth.{problem_of_block}
use Rattle.wfc_blocks.specs.StuckView.{StuckView}
use Rattle.wfc_blocks.specs.declared.block.Block.{Block}
use Rattle.wfc_blocks.specs.declared.grown.Grown.{Grown}
use Rattle.wfc_blocks.specs.declared.grown.Grown.TheVariants as grown

-- a palette names the numbers of patterns: each is one of its symbols, which can stand in a sample, and of which
-- no two are one
pub record IsNamedBy (palette : List Symbol) (patterns : PatternsView) : Type 0 where
  pub shown : All (λ symbol. IsTrue (is_shown symbol)) palette
  pub apart : IsDistinct same_symbol palette
  pub some_symbol : 0 < length palette
  pub below : AreNumbersBelow (length palette) patterns

-- a picture is a legal map of the whole area with the pins that the lines mean, by each sample that teaches the
-- patterns
abbrev pub IsLegalWhole : PatternsView → List Symbol → Area → List PinView → Raster → Type 0
IsLegalWhole patterns palette area lines m =
    (sample : Raster) (rules : Rules) (pins : List Pin)
    → IsTaughtBy sample rules patterns (whole_of area)
    → picture_pins (texts_of palette) area.width area.height lines ≡ Ok pins
    → IsLegalPicture sample rules pins area.width area.height m

-- no picture of a block is a legal map with these pins, by any sample that teaches the patterns
abbrev pub AdmitNoMap : PatternsView → Block → List Pin → Type 0
AdmitNoMap patterns block pins =
    (sample : Raster) (rules : Rules) (m : Raster)
    → IsTaughtBy sample rules patterns (output_of_block block)
    → IsLegalPicture sample rules pins block.width block.height m → ⊥

-- a block is stuck: it is one of the area's, and its lines, read by a palette that names the numbers, mean pins
-- that admit no map of it
pub record IsStuck (patterns : PatternsView) (palette : List Symbol) (area : Area)
    (stuck : StuckView) : Type 0 where
  pub among : Contains (blocks_of patterns.n area) stuck.block
  pub pins : List Pin
  pub meant : IsNamedBy palette patterns
      → picture_pins (texts_of palette) stuck.block.width stuck.block.height stuck.pins ≡ Ok pins
  pub none : AdmitNoMap patterns stuck.block pins

-- the map that is answered, if one is, is legal
abbrev pub ShowsLegalMap : PatternsView → List Symbol → Area → List PinView → Grown → Type 0
ShowsLegalMap patterns palette area lines (grown.Map m) =
    IsLegalWhole patterns palette area lines m
ShowsLegalMap patterns palette area lines (grown.Stuck stuck) = ⊤
ShowsLegalMap patterns palette area lines grown.Spent = ⊤

-- the block that is answered, if one is, is stuck
abbrev pub ShowsStuckBlock : PatternsView → List Symbol → Area → Grown → Type 0
ShowsStuckBlock patterns palette area (grown.Stuck stuck) = IsStuck patterns palette area stuck
ShowsStuckBlock patterns palette area (grown.Map m) = ⊤
ShowsStuckBlock patterns palette area grown.Spent = ⊤

-- where growth by a sample's patterns sets an area, what it sets is a legal map
abbrev pub GrowsLegal : Raster → Rules → Area → Terms → Type 0
GrowsLegal sample rules area terms =
    (canvas : Canvas) → IsPatterns terms.patterns → IsTaughtBy sample rules terms.patterns (whole_of area)
    → IsGrowable terms.patterns area → AreInside (whole_of area) terms.pins → growth_of area terms ≡ full canvas
    → IsLegalPicture sample rules terms.pins area.width area.height (canvas_picture area canvas)

-- and each pixel of the area is set, as its picture has it
abbrev pub GrowsWhole : Raster → Rules → Area → Terms → Type 0
GrowsWhole sample rules area terms =
    (canvas : Canvas) (x y : ℕ) → IsPatterns terms.patterns → IsTaughtBy sample rules terms.patterns (whole_of area)
    → IsGrowable terms.patterns area → growth_of area terms ≡ full canvas → x < area.width → y < area.height
    → canvas x y ≡ Some (number_at (canvas_picture area canvas) x y)

-- this holds wherever growth stops at a block, and what is set then
abbrev pub HoldsOfStopped : (Area → Terms → Block → Canvas → Type 0) → Type 0
HoldsOfStopped Holds =
    (area : Area) (terms : Terms) (block : Block) (canvas : Canvas) → IsPatterns terms.patterns
    → IsGrowable terms.patterns area → IsStoppedAt area terms block canvas → Holds area terms block canvas

-- where growth by a sample's patterns stops at a block, its pins admit no map of it
abbrev pub HasNoMapWhereStopped : Raster → Rules → Area → Terms → Type 0
HasNoMapWhereStopped sample rules area terms =
    (block : Block) (canvas : Canvas) (m : Raster) → IsPatterns terms.patterns
    → IsTaughtBy sample rules terms.patterns (whole_of area) → IsGrowable terms.patterns area
    → IsStoppedAt area terms block canvas
    → IsLegalPicture sample rules (pins_of_block terms.pins canvas block) block.width block.height m → ⊥

-- where growth by the lines of a pins file stops at a block, the block's lines mean its pins
abbrev pub MeanStuckPins : List Symbol → List PinView → Area → Terms → Type 0
MeanStuckPins palette lines area terms =
    (block : Block) (canvas : Canvas) → IsNamedBy palette terms.patterns
    → picture_pins (texts_of palette) area.width area.height lines ≡ Ok terms.pins
    → IsStoppedAt area terms block canvas
    → picture_pins (texts_of palette) block.width block.height (lines_of_block (texts_of palette) lines canvas block)
    ≡ Ok (pins_of_block terms.pins canvas block)

-- and what is built with them is the block's problem
abbrev pub BuildStuckProblem : List Symbol → List PinView → Area → Terms → Type 0
BuildStuckProblem palette lines area terms =
    (block : Block) (canvas : Canvas) → IsNamedBy palette terms.patterns → IsPatterns terms.patterns
    → IsGrowable terms.patterns area
    → picture_pins (texts_of palette) area.width area.height lines ≡ Ok terms.pins
    → IsStoppedAt area terms block canvas
    → picture_problem terms.patterns palette (output_of_block block) (lines_of_block (texts_of palette) lines canvas block)
    ≡ Ok (problem_of_block terms canvas block)

-- the run of one of the area's blocks is spent, where this is set, which the blocks before it set
abbrev pub HasSpentBlock : Area → Terms → Type 0
HasSpentBlock area terms =
    (block : Block) × (canvas : Canvas) × Contains (blocks_of terms.patterns.n area) block
    × IsSetBefore area terms block canvas × HasBlockOutcome terms canvas block Spent
