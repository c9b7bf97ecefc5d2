use Rattle.std.proofs.Common.{◌≡◌}
use Rattle.wfc_model.specs.Image.{after_turns}
use Rattle.wfc_pattern.proofs.different.turn.Given as goal

abbrev pub invariant-loop-turn : goal.invariant-loop-turn
invariant-loop-turn l = l.window ≡ after_turns l.n l.initial.window l._turn
