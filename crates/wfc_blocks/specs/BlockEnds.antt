-- How the run of a block ends, as the code holds it.
use Rattle.std.specs.Prelude.{◌≡◌, ℕ, List, ⊤}
use Rattle.wfc_choose.specs.Pick.{Rule}
use Rattle.wfc_model.specs.Legal.{Pin}
use Rattle.wfc_model.specs.Raster.{Raster, IsSized}
use Rattle.wfc_pattern.specs.Patterns.{PatternsView}
use Rattle.wfc_problem.specs.Network.{Network}
use Rattle.wfc_overlap.specs.Bridge.{picture_of}
use Rattle.wfc_overlap.specs.Sample.{problem_of_sample, agreement_table}
use Rattle.wfc_search.specs.Ends.{EndsIn, EndsInMap}
use Rattle.wfc_search.specs.declared.Outcome.TheVariants as outcome
use Rattle.wfc_runs.specs.Runs.{IsLegalEnd}
use Rattle.wfc_runs.specs.Words.{words_of_seed}
use Rattle.wfc_runs.specs.declared.runs.RunEnd.{RunEnd}
use Rattle.wfc_runs.specs.declared.runs.RunEnd.TheVariants as end
use Rattle.wfc_blocks.specs.Blocks.{output_of_block}
use Rattle.wfc_blocks.specs.CanvasView.{HasNumbersBelow}
use Rattle.wfc_blocks.specs.declared.TheConstants.{UNSET}
use Rattle.wfc_blocks.specs.declared.block.Block.{Block}
use Rattle.wfc_blocks.specs.declared.ends.BlockEnd.{BlockEnd}
use Rattle.wfc_blocks.specs.declared.ends.BlockEnd.TheVariants.{Map, NoMap, Spent}

-- the problem of a block with these pins
abbrev pub problem_with_pins : PatternsView → List Pin → Block → Network
problem_with_pins patterns pins block = problem_of_sample patterns (output_of_block block) pins

-- the run of a block with these pins, by this rule, this budget and the words of this seed, has this end
abbrev pub IsBlockEnd : PatternsView → List Pin → Block → Rule → ℕ → ℕ → BlockEnd → Type 0
IsBlockEnd patterns pins block rule budget seed (Map m) =
    (a : List ℕ)
    × EndsInMap (problem_with_pins patterns pins block) rule budget (words_of_seed seed) a
    × (m ≡ picture_of patterns (output_of_block block) a)
IsBlockEnd patterns pins block rule budget seed NoMap =
    EndsIn (problem_with_pins patterns pins block) rule budget (words_of_seed seed) outcome.NoMap
IsBlockEnd patterns pins block rule budget seed Spent =
    EndsIn (problem_with_pins patterns pins block) rule budget (words_of_seed seed) outcome.Spent

-- the assignment of an end, if it has one, is legal for some pins of a block
abbrev pub IsLegalFor : PatternsView → Block → RunEnd → Type 0
IsLegalFor patterns block ended =
    (pins : List Pin) × IsLegalEnd (problem_with_pins patterns pins block) ended

-- an end is shown as the end of a block: its assignment as the picture that it paints
abbrev pub IsShownAs : PatternsView → Block → RunEnd → BlockEnd → Type 0
IsShownAs patterns block (end.Map assignment) (Map m) =
    m ≡ picture_of patterns (output_of_block block) assignment.items
IsShownAs patterns block end.NoMap NoMap = ⊤
IsShownAs patterns block end.Spent Spent = ⊤
IsShownAs patterns block _ _ = ⊥

-- a picture has the sides of a block, and numbers that can be set
pub record IsBlockPicture (block : Block) (m : Raster) : Type 0 where
  pub sized : IsSized m block.width block.height
  pub small : HasNumbersBelow UNSET m

-- the picture of an end, if it has one, is one of the block
abbrev pub FitsBlock : Block → BlockEnd → Type 0
FitsBlock block (Map m) = IsBlockPicture block m
FitsBlock block NoMap = ⊤
FitsBlock block Spent = ⊤

-- the lists are the supports of the patterns
abbrev pub AreSupportsOf : PatternsView → List (List ℕ) → Type 0
AreSupportsOf patterns lists = lists ≡ agreement_table patterns
