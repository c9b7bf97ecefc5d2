use Rattle.std.proofs.Common.{◌≡◌, map}
use Rattle.std.specs.List.{flat_map, range_with_len}
use Rattle.wfc_box.specs.BoxProblem.{all_fitting_in_box}
use Rattle.wfc_box.proofs.supports.supports.Given as goal

abbrev pub invariant-loop-v : goal.invariant-loop-v
invariant-loop-v l = map (λ list. list.items) l.lists.items ≡ flat_map (λ v. all_fitting_in_box l.tiles l.stacks v) (range_with_len 0 l.v)
