-- The end of a run, shown as the end of a block.
use Rattle.std.proofs.Common.{◌≡◌, ℕ, ◌<◌, List, [], Result, Ok, Err, length, get_or, ap, sym, ◌∙◌, subst, arith, zero-add, lit<}
use Rattle.std.specs.Prelude.{IfOk, slice_index}
use Rattle.std.proofs.lemmas.List.{get_or_default}
use Rattle.std.proofs.lemmas.List.FromFn.{length-map-range_with_len, get_or-map-range_with_len}
use Rattle.wfc_outside.specs.declared.NoMemory.{NoMemory}
use Rattle.wfc_choose.specs.Pick.{Rule}
use Rattle.wfc_model.specs.Legal.{Pin}
use Rattle.wfc_model.specs.Raster.{number_at}
use Rattle.wfc_model.proofs.CallerLemmas.{made_sized}
use Rattle.wfc_pattern.specs.Patterns.{PatternsView, IsPatterns}
use Rattle.wfc_problem.specs.Assignment.{IsLegalAssignment}
use Rattle.wfc_problem.specs.Network.{Network, values}
use Rattle.wfc_problem.proofs.CallerLemmas.{base_inside}
use Rattle.wfc_overlap.specs.Bridge.{IsRoom, picture_of, pixel_of, picture_row}
use Rattle.wfc_overlap.proofs.CallerLemmas.{pixel_small, sample_problem}
use Rattle.wfc_runs.specs.Runs.{IsRunEnd}
use Rattle.wfc_runs.specs.declared.runs.RunEnd.{RunEnd}
use Rattle.wfc_runs.specs.declared.runs.RunEnd.TheVariants as end
use Rattle.wfc_blocks.specs.BlockEnds.{IsBlockEnd, IsBlockPicture, IsShownAs, problem_with_pins}
use Rattle.wfc_blocks.specs.Blocks.{output_of_block}
use Rattle.wfc_blocks.specs.Growth.{AreNumbersBelow}
use Rattle.wfc_blocks.specs.declared.TheConstants.{UNSET}
use Rattle.wfc_blocks.specs.declared.block.Block.{Block}
use Rattle.wfc_blocks.specs.declared.ends.BlockEnd.{BlockEnd}
use Rattle.wfc_blocks.specs.declared.ends.BlockEnd.TheVariants.{Map, NoMap, Spent}

-- an end that is shown is the block's
is_block_end : (patterns : PatternsView) (pins : List Pin) (block : Block) (rule : Rule) (budget seed : ℕ) (ended : RunEnd) (made : BlockEnd) → IsRunEnd (problem_with_pins patterns pins block) rule budget seed ended → IsShownAs patterns block ended made → IsBlockEnd patterns pins block rule budget seed made
is_block_end patterns pins block rule budget seed (end.Map assignment) (Map m) of shown = (assignment.items, of, shown)
is_block_end patterns pins block rule budget seed end.NoMap NoMap of shown = of
is_block_end patterns pins block rule budget seed end.Spent Spent of shown = of
is_block_end patterns pins block rule budget seed (end.Map assignment) NoMap of shown = absurd shown
is_block_end patterns pins block rule budget seed (end.Map assignment) Spent of shown = absurd shown
is_block_end patterns pins block rule budget seed end.NoMap (Map m) of shown = absurd shown
is_block_end patterns pins block rule budget seed end.NoMap Spent of shown = absurd shown
is_block_end patterns pins block rule budget seed end.Spent (Map m) of shown = absurd shown
is_block_end patterns pins block rule budget seed end.Spent NoMap of shown = absurd shown

-- so of what is answered, if memory was enough, whose problem has another name
pub answers_block_end : (patterns : PatternsView) (pins : List Pin) (block : Block) (P : Network) (rule : Rule) (budget seed : ℕ) (ended : RunEnd) (result : Result BlockEnd NoMemory) → P ≡ problem_with_pins patterns pins block → IsRunEnd P rule budget seed ended
    → IfOk result (IsShownAs patterns block ended) → IfOk result (IsBlockEnd patterns pins block rule budget seed)
answers_block_end patterns pins block P rule budget seed ended (Err cause) is of shown = tt
answers_block_end patterns pins block P rule budget seed ended (Ok made) is of shown =
    is_block_end patterns pins block rule budget seed ended made (subst (λ P. IsRunEnd P rule budget seed ended) is of) shown

-- each value of a legal assignment is a pattern
pub each_pattern : (patterns : PatternsView) (block : Block) (pins : List Pin) (a : List ℕ) → IsPatterns patterns → IsRoom patterns (output_of_block block) → IsLegalAssignment (problem_with_pins patterns pins block) a → (k d : ℕ) → k < length a → get_or a k d < length patterns.windows
each_pattern patterns block pins a taught room legal k d inside =
    let P = problem_with_pins patterns pins block in
    let low : get_or a k 0 < values P = (base_inside P (sample_problem patterns (output_of_block block) pins taught room) k (get_or a k 0) (legal.based k (omega (arith, legal.each_cell, inside)))).1 in
    omega (arith, low, taught.weighed, get_or_default a k d 0 inside)

-- the picture of a block has its sides, and numbers of its patterns
pub picture_fits : (patterns : PatternsView) (block : Block) (a : List ℕ) → IsPatterns patterns → IsRoom patterns (output_of_block block) → AreNumbersBelow UNSET patterns → IsBlockPicture block (picture_of patterns (output_of_block block) a)
picture_fits patterns block a taught room small =
    let output = output_of_block block in
    let high = length-map-range_with_len (λ y. picture_row patterns output a y) 0 block.height in
    record {
      sized = made_sized (λ x y. pixel_of patterns output a x y) block.width block.height (omega (arith, taught.some_side, room.wide)) (omega (arith, taught.some_side, room.high));
      small = λ x y column row.
          let line : get_or (picture_of patterns output a).rows y [] ≡ picture_row patterns output a y = get_or-map-range_with_len (λ j. picture_row patterns output a j) 0 block.height y y [] (omega (arith, high)) (zero-add y) in
          let is : number_at (picture_of patterns output a) x y ≡ pixel_of patterns output a x y =
          ap (λ (r : List ℕ). slice_index r x) line ∙ get_or-map-range_with_len (λ i. pixel_of patterns output a i y) 0 block.width x x 0 column (zero-add x) in
          subst (λ n. n < UNSET) (sym is) (pixel_small UNSET patterns output a x y (lit< tt) small);
    }
