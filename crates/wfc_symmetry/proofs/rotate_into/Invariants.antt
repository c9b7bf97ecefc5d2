use Rattle.std.proofs.Common.{◌≡◌, ℕ, ◌+◌, ◌-◌, ◌*◌, ◌/◌, ◌%◌, ◌<◌, get_or}
use Rattle.wfc_model.specs.Image.{cell_at}
use Rattle.wfc_symmetry.proofs.rotate_into.Given as goal

abbrev pub invariant-loop-cell : goal.invariant-loop-cell
invariant-loop-cell l = record {
  place : l.y * l.n + l.x ≡ l.cell-index;
  column : 0 < l.n → l.x < l.n;
  written : (k : ℕ) → k < l.cell-index → get_or l.out k 0 ≡ cell_at l.n l.window (l.n - 1 - k / l.n) (k % l.n);
}
