use Rattle.std.proofs.Common.{◌≡◌, ◌≤◌, length, take, vec_capacity}
use Rattle.wfc_choose.proofs.sizes.narrow_sizes.Given as goal

-- the sizes so far are taken over, and there is room for all
abbrev pub invariant-loop-size : goal.invariant-loop-size
invariant-loop-size l = record {
  so_far : l.narrow.items ≡ take l.size-index l.sizes;
  room : length l.sizes ≤ vec_capacity l.narrow;
}
