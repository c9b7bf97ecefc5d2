-- The numbers of the patterns so far are small.
use Rattle.std.proofs.Common.{ℕ, List, [], ◌<◌, get_or}
use Rattle.std.specs.Prelude.{All}
use Rattle.wfc_picture.specs.declared.palette.TheConstants.{MAX_COLOURS}
use Rattle.wfc_blocks_tests.proofs.blocks.asking.are_small.Given as goal

abbrev pub invariant-loop-v : goal.invariant-loop-v
invariant-loop-v l = (k : ℕ) (d : List ℕ) → k < l.v → All (λ number. number < MAX_COLOURS) (get_or l.patterns.windows k d)
