use Rattle.std.proofs.Common.{◌≡◌, ℕ, ◌+◌, ◌<◌}
use Rattle.wfc_model.specs.Image.{cell_at}
use Rattle.wfc_pattern.proofs.overlap.overlaps.Given as goal

abbrev pub invariant-loop-row : goal.invariant-loop-row
invariant-loop-row l = (j : ℕ) → j < l.row → (i : ℕ) → i + l.columns < l.n → cell_at l.n l.p (i + l.columns) (j + l.rows) ≡ cell_at l.n l.q i j
