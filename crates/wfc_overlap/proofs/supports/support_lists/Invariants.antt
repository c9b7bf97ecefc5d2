use Rattle.std.proofs.Common.{◌≡◌, map}
use Rattle.std.specs.List.{flat_map, range_with_len}
use Rattle.wfc_overlap.specs.Sample.{agreeing_patterns}
use Rattle.wfc_overlap.proofs.supports.support_lists.Given as goal

abbrev pub invariant-loop-p : goal.invariant-loop-p
invariant-loop-p l = map (λ list. list.items) l.lists.items ≡ flat_map (λ p. map (agreeing_patterns l.patterns p) (range_with_len 0 4)) (range_with_len 0 l.p)
