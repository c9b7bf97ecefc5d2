use Rattle.std.proofs.Common.{◌≡◌, map}
use Rattle.std.specs.List.{flat_map, range_with_len}
use Rattle.wfc_overlap.specs.Bridge.{pixel_of}
use Rattle.wfc_overlap.specs.Sample.{output_with}
use Rattle.wfc_overlap.proofs.painting.picture_of.Given as goal

abbrev pub invariant-loop-y : goal.invariant-loop-y
invariant-loop-y l = l.numbers.items ≡ flat_map (λ y. map (λ x. pixel_of l.patterns (output_with l.width l.height l.wrap) l.assignment x y) (range_with_len 0 l.width)) (range_with_len 0 l.y)
