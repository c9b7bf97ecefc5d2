use Rattle.std.proofs.Common.{◌≡◌, ℕ, ◌+◌, ◌*◌, ◌/◌, ◌%◌, ◌<◌, get_or}
use Rattle.wfc_model.specs.Raster.{height_of, number_at}
use Rattle.wfc_picture.proofs.picture.Picture.window_into.Given as goal

abbrev pub invariant-loop-cell : goal.invariant-loop-cell
invariant-loop-cell l = record {
  place : l.row * l.n + l.column ≡ l.cell-index;
  inside : 0 < l.n → l.column < l.n;
  written : (k : ℕ) → k < l.cell-index → get_or l.out k 0 ≡ number_at l.self ((l.x + k % l.n) % l.self.width) ((l.y + k / l.n) % height_of l.self);
}
