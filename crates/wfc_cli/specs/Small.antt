-- Requests for the laws.
use Rattle.std.specs.Prelude.{ℕ, false}
use Rattle.wfc_blocks.specs.declared.block.Block.{Block}
use Rattle.wfc_words.specs.RequestView.{RequestView}
use Rattle.wfc_words.specs.declared.kinds.SourceModel.TheVariants.{Overlap}

-- the request, of a sample's windows of this side
abbrev pub of_windows_asked : RequestView → ℕ → RequestView
of_windows_asked asked n = record asked { source = Overlap n }

-- the request for a map of windows that is as large as the block and doesn't go on over its edges
abbrev pub block_asked : RequestView → ℕ → Block → RequestView
block_asked asked n block =
    record (of_windows_asked asked n) { width = block.width; height = block.height; wrap_out = false }
