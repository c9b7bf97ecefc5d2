use Rattle.std.proofs.Common.{◌≡◌, ◌≤◌, ◌++◌, length, reverse}
use Rattle.std.specs.Prelude.{vec_capacity}
use Rattle.wfc_log.proofs.older.move_from.Given as goal

abbrev pub invariant-loop-list : goal.invariant-loop-list
invariant-loop-list l = record {
  same : l.older ≡ record l.fn.older { removals = l.older.removals };
  moved : l.fn.older.removals ≡ l.older.removals ++ reverse l.list.items;
  capacity : vec_capacity l.list ≡ vec_capacity l.fn.list;
  within : l.start ≤ length l.older.removals;
}

-- each turn moves one
abbrev pub decreases-loop-list : goal.decreases-loop-list
decreases-loop-list l = length l.older.removals
