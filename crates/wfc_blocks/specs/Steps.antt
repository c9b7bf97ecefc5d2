-- What filling a block does, and how the code holds the end of growth.
use Rattle.std.specs.Prelude.{◌≡◌, ℕ, List, Some, ⊤}
use Rattle.wfc_choose.specs.Pick.{Rule}
use Rattle.wfc_model.specs.Legal.{Pin}
use Rattle.wfc_pattern.specs.Patterns.{PatternsView}
use Rattle.wfc_search.specs.Run.{State}
use Rattle.wfc_search.specs.declared.Outcome.{Outcome}
use Rattle.wfc_search.specs.declared.Outcome.TheVariants as outcome
use Rattle.wfc_blocks.specs.Blocks.{blocks_of}
use Rattle.wfc_blocks.specs.Canvas.{Canvas, with_block}
use Rattle.wfc_blocks.specs.CanvasView.{CanvasView, LiesWithin, canvas_of}
use Rattle.wfc_blocks.specs.Covers.{area_of}
use Rattle.wfc_blocks.specs.Grown.{terms_with}
use Rattle.wfc_blocks.specs.Growth.{Growth, Terms, full, spent, stopped, block_end, growth_over, picture_of_block}
use Rattle.wfc_blocks.specs.declared.block.Block.{Block}
use Rattle.wfc_blocks.specs.declared.cover.Cover.{Cover}
use Rattle.wfc_blocks.specs.declared.ends.BlockEnd.{BlockEnd}
use Rattle.wfc_blocks.specs.declared.ends.BlockEnd.TheVariants.{Map, NoMap, Spent}
use Rattle.wfc_blocks.specs.declared.growing.Halt.{Halt}
use Rattle.wfc_blocks.specs.declared.growing.Halt.TheVariants as halt

-- this outcome is that of a block's end, and the block is set to its picture, if it has one
abbrev pub IsSetBy : Canvas → Block → BlockEnd → Outcome → Canvas → Type 0
IsSetBy old block (Map m) outcome.Map new = new ≡ with_block old block m
IsSetBy old block NoMap outcome.NoMap new = new ≡ old
IsSetBy old block Spent outcome.Spent new = new ≡ old
IsSetBy old block _ _ new = ⊥

-- what is set after the run of a block
abbrev pub canvas_after : Terms → Canvas → Block → Outcome → State → Canvas
canvas_after terms canvas block outcome.Map s =
    with_block canvas block (picture_of_block terms canvas block s)
canvas_after terms canvas block outcome.NoMap s = canvas
canvas_after terms canvas block outcome.Spent s = canvas

-- the run of a block has this outcome, and this is set after it
pub record IsBlockStep (terms : Terms) (canvas : Canvas) (block : Block) (outcome : Outcome)
    (more : Canvas) : Type 0 where
  pub state : State
  pub ends : block_end terms canvas block ≡ Some (outcome, state)
  pub set : more ≡ canvas_after terms canvas block outcome state

-- the end of growth as the code holds it, where this is set
abbrev pub growth_at : Halt → Canvas → Growth
growth_at halt.Full canvas = full canvas
growth_at (halt.At block) canvas = stopped block canvas
growth_at halt.Spent canvas = spent

-- a block at which growth ends lies in an area of these sides
abbrev pub HaltsWithin : ℕ → ℕ → Halt → Type 0
HaltsWithin width height (halt.At block) = LiesWithin width height block
HaltsWithin width height halt.Full = ⊤
HaltsWithin width height halt.Spent = ⊤

-- growth over the blocks of a cover by these terms, from where this is set on, halts so, where that is set
abbrev pub GrowsAs : PatternsView → Rule → ℕ → ℕ → List Pin → Cover → CanvasView → CanvasView → Halt → Type 0
GrowsAs patterns rule budget seed pins cover old new halt =
    growth_over (terms_with patterns rule budget seed pins) (blocks_of cover.n (area_of cover)) (canvas_of old)
    ≡ growth_at halt (canvas_of new)
