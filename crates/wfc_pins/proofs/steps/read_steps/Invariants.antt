use Rattle.std.proofs.Common.{◌≤◌, ◌+◌, length, map}
use Rattle.wfc_text.specs.View.{line_view}
use Rattle.wfc_pins.specs.Steps.{steps_of}
use Rattle.wfc_pins.proofs.StepLemmas.{IsReading}
use Rattle.wfc_pins.proofs.steps.read_steps.Given as goal

abbrev pub invariant-loop-line : goal.invariant-loop-line
invariant-loop-line l = record {
  reading : IsReading (steps_of l.bytes) (map line_view l.yielded) l.line-iterator l.steps.items l.standing;
  few : l.standing + length l.line-iterator ≤ 16777217;
}
