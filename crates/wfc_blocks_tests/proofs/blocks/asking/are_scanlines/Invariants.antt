-- The choosers before this one take the least cell.
use Rattle.std.proofs.Common.{map, take}
use Rattle.std.specs.Prelude.{All}
use Rattle.wfc_blocks_tests.proofs.PushLemmas.{IsLeast}
use Rattle.wfc_blocks_tests.proofs.blocks.asking.are_scanlines.Given as goal

abbrev pub invariant-loop-chooser : goal.invariant-loop-chooser
invariant-loop-chooser g l =
    All IsLeast (map (λ chooser. ((goal.Chooser-dyn g (chooser.vtable, chooser.value)).told chooser.value).rule) (take l.chooser-index l.choosers))
