use Rattle.std.proofs.Common.{◌≡◌, ◌++◌, map, take}
use Rattle.wfc_problem.specs.HopsMade.{hop_of}
use Rattle.wfc_problem.proofs.hops.push_hops.Given as goal

abbrev pub invariant-loop-entry : goal.invariant-loop-entry
invariant-loop-entry l = l.rows.items ≡ l.fn.rows.items ++ map (hop_of l.cell) (take l.entry-index l.entries)
