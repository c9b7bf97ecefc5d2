-- The lines of the pins before this one are written.
use Rattle.std.proofs.Common.{take, ◌++◌, ◌≡◌}
use Rattle.std.specs.List.{flat_map}
use Rattle.wfc_grow_command.proofs.stuck_block.push_pins.Given as goal
use Rattle.wfc_grow_command.specs.StuckText.{pin_text}

abbrev pub invariant-loop-pin : goal.invariant-loop-pin
invariant-loop-pin l = l.text.items ≡ l.initial.text.items ++ flat_map pin_text (take l.pin-index l.pins)
