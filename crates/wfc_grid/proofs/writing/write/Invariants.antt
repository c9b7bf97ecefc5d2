use Rattle.std.proofs.Common.{◌≡◌}
use Rattle.std.specs.Slice.Iter.{chunks_exact_rest, chunks_exact_size}
use Rattle.wfc_grid.proofs.TextLemmas.{Written}
use Rattle.wfc_grid.proofs.writing.write.Given as goal

abbrev pub invariant-loop-row : goal.invariant-loop-row
invariant-loop-row l = record {
  size : chunks_exact_size l.row-iterator ≡ l.grid.width;
  written : Written l.grid l.text.items (chunks_exact_rest l.row-iterator);
}
