-- The numbers of the entries so far.
use Rattle.std.proofs.Common.{◌≡◌, map, take}
use Rattle.wfc_blocks.specs.Canvas.{number_set}
use Rattle.wfc_blocks.proofs.canvas.Canvas.numbers.Given as goal

abbrev pub invariant-loop-entry : goal.invariant-loop-entry
invariant-loop-entry l = l.numbers.items ≡ map number_set (take l.entry-index l.self.cells)
