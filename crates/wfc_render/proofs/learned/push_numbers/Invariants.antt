-- The numbers so far are written.
use Rattle.std.proofs.Common.{◌≡◌, ◌++◌, take}
use Rattle.wfc_render.specs.Numbers.{blank_numbers}
use Rattle.wfc_render.proofs.learned.push_numbers.Given as goal

abbrev pub invariant-loop-number : goal.invariant-loop-number
invariant-loop-number l = l.text.items ≡ l.initial.text.items ++ blank_numbers (take l.number-index l.numbers)
