use Rattle.std.proofs.Common.{◌≡◌, take}
use Rattle.wfc_check.proofs.trail.base_flags.Given as goal

abbrev pub invariant-loop-place : goal.invariant-loop-place
invariant-loop-place l = l.flags.items ≡ take l.place l.problem.base
