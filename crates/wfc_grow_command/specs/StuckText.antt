-- The text of a stuck block: a line that names it, the lines of its pins, and its refutation.
use Rattle.std.specs.List.{flat_map}
use Rattle.std.specs.Prelude.{Bool, List, codes, decimal, false, length, true, ℕ, ◌++◌}
use Rattle.wfc_blocks.specs.Growth.{seed_of_block}
use Rattle.wfc_blocks.specs.StuckView.{StuckView}
use Rattle.wfc_blocks.specs.declared.block.Block.{Block}
use Rattle.wfc_pins.specs.PinView.{PinView}
use Rattle.wfc_proof.specs.declared.heads.Shape.{Shape}
use Rattle.wfc_reply.specs.declared.putting.RunWriting.{RunWriting}
use Rattle.wfc_task.specs.Sources.{window_side_of}
use Rattle.wfc_words.specs.RequestView.{RequestView}

-- the first word of a line of a pins file
abbrev pub pin_word : Bool → List ℕ
pin_word true = codes "pin"
pin_word false = codes "ban"

-- a number behind a blank
abbrev pub blank_and_number : ℕ → List ℕ
blank_and_number n = codes " " ++ decimal n

-- a line of a pins file, with one blank between its words
abbrev pub pin_text : PinView → List ℕ
pin_text line = pin_word line.keep ++ blank_and_number line.x ++ blank_and_number line.y ++ codes " " ++ line.symbol ++ codes "\n"

-- the first pixel of a block, and its sides
abbrev pub stuck_head : Block → List ℕ
stuck_head block =
    codes "stuck" ++ blank_and_number block.x ++ blank_and_number block.y
    ++ blank_and_number block.width ++ blank_and_number block.height

-- what stands before the refutation of a stuck block: the block, how many lines its pins have, and these lines
abbrev pub stuck_text : StuckView → List ℕ
stuck_text stuck =
    stuck_head stuck.block ++ codes " pins" ++ blank_and_number (length stuck.pins) ++ codes "\n" ++ flat_map pin_text stuck.pins

-- the shape of a block's problem, which doesn't wrap
abbrev pub block_shape : RequestView → Block → Shape
block_shape asked block = record {
  n = window_side_of asked.source;
  width = block.width;
  height = block.height;
  depth = 1;
  symmetry = asked.symmetry;
  wrap_in = asked.wrap_in;
  wrap_out = false;
}

-- how the run of a block is made again, and its lines written
abbrev pub block_writing : RequestView → Block → RunWriting
block_writing asked block =
    record { format = 2; shape = block_shape asked block; budget = asked.budget; seed = seed_of_block asked.seed block }
