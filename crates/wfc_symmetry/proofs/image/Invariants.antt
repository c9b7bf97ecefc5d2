use Rattle.std.proofs.Common.{◌≡◌, ◌*◌, length}
use Rattle.wfc_model.specs.Image.{after_turns}
use Rattle.wfc_symmetry.proofs.image.Given as goal

abbrev pub invariant-loop-turn : goal.invariant-loop-turn
invariant-loop-turn l = record {
  turned : l.turned.items ≡ after_turns l.n l.window l._turn;
  square : length l.turned.items ≡ l.n * l.n;
  room : length l.other.items ≡ l.n * l.n;
}
