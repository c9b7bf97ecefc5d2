use Rattle.std.proofs.Common.{◌≡◌, ◌++◌, map}
use Rattle.std.specs.List.{range_with_len}
use Rattle.wfc_overlap.specs.Bridge.{pixel_of}
use Rattle.wfc_overlap.specs.Layout.{output_of}
use Rattle.wfc_overlap.proofs.painting.push_row.Given as goal

abbrev pub invariant-loop-x : goal.invariant-loop-x
invariant-loop-x l = l.numbers.items ≡ l.initial.numbers.items ++ map (λ x. pixel_of l.patterns (output_of l.layout) l.assignment x l.y) (range_with_len 0 l.x)
