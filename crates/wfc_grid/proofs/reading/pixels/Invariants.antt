use Rattle.std.proofs.Common.{◌≡◌, ◌++◌}
use Rattle.wfc_text.specs.Line.{lines_of}
use Rattle.wfc_grid.specs.Fault.{grid_bytes, first_fault}
use Rattle.wfc_grid.proofs.reading.pixels.Given as goal

abbrev pub invariant-loop-line : goal.invariant-loop-line
invariant-loop-line l = record {
  whole : l.pixels.items ++ grid_bytes l.line-iterator ≡ grid_bytes (lines_of l.text);
  right : first_fault l.width l.line-iterator ≡ first_fault l.width (lines_of l.text);
}
