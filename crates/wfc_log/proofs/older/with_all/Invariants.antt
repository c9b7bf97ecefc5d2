use Rattle.std.proofs.Common.{◌≡◌, ◌++◌, take}
use Rattle.wfc_log.proofs.older.with_all.Given as goal

abbrev pub invariant-loop-removal : goal.invariant-loop-removal
invariant-loop-removal l = l.older ≡ record l.fn.older { removals = l.fn.older.removals ++ take l.removal-index l.removals }
