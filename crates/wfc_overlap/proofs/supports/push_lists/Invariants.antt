use Rattle.std.proofs.Common.{◌≡◌, ◌++◌, map}
use Rattle.std.specs.List.{range_with_len}
use Rattle.wfc_overlap.specs.Sample.{agreeing_patterns}
use Rattle.wfc_overlap.proofs.supports.push_lists.Given as goal

abbrev pub invariant-loop-dir : goal.invariant-loop-dir
invariant-loop-dir l = map (λ list. list.items) l.lists.items ≡ map (λ list. list.items) l.initial.lists.items ++ map (agreeing_patterns l.patterns l.p) (range_with_len 0 l.dir)
