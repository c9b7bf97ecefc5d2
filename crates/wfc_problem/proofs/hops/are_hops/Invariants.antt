use Rattle.std.proofs.Common.{◌≡◌, ℕ, ◌<◌}
use Rattle.std.specs.Prelude.{slice_index}
use Rattle.wfc_problem.specs.HopsMade.{hop_of}
use Rattle.wfc_problem.proofs.hops.are_hops.Given as goal

abbrev pub invariant-loop-dir : goal.invariant-loop-dir
invariant-loop-dir l = (d : ℕ) → d < l.dir → slice_index l.hops d ≡ hop_of l.cell (slice_index l.entries d)
