-- The lists before this one are copied.
use Rattle.std.proofs.Common.{◌≡◌, map, take}
use Rattle.wfc_explain.proofs.kept.copy_of_lists.Given as goal

abbrev pub invariant-loop-list : goal.invariant-loop-list
invariant-loop-list l = map (λ list. list.items) l.copy.items ≡ map (λ list. list.items) (take l.list-index l.lists)
