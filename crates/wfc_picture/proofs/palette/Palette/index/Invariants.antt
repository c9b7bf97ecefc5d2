use Rattle.std.proofs.Common.{◌≡◌, ℕ, ◌≤◌, length, take}
use Rattle.wfc_picture.specs.declared.palette.TheConstants.{MAX_COLOURS}
use Rattle.wfc_picture.specs.Palette.{palette_of, palette_numbers}
use Rattle.wfc_picture.proofs.palette.Palette.index.Given as goal

abbrev pub invariant-loop-at : goal.invariant-loop-at
invariant-loop-at l = record {
  found : l.found.keys ≡ palette_of (take l.at l.symbols);
  cells : l.cells.items ≡ take l.at (palette_numbers l.symbols);
  few : (j : ℕ) → j ≤ l.at → length (palette_of (take j l.symbols)) ≤ MAX_COLOURS;
}
