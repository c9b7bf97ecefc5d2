-- The values of the cells so far.
use Rattle.std.proofs.Common.{◌≡◌, take}
use Rattle.wfc_search.specs.Search.{assignment_of}
use Rattle.wfc_runs.proofs.runs.assignment.Given as goal

abbrev pub invariant-loop-cell : goal.invariant-loop-cell
invariant-loop-cell g l = l.values.items ≡ take l.cell (assignment_of l.problem l.search.store.standing)
