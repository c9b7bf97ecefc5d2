use Rattle.std.proofs.Common.{◌≡◌, ◌<◌, ◌≤◌, ℕ, true, false, length, get_or}
use Rattle.wfc_log.proofs.domains.cut_to_base.Given as goal

abbrev pub invariant-loop-place : goal.invariant-loop-place
invariant-loop-place l = record {
  as_long : length l.flags ≡ length l.problem.base;
  done : (k : ℕ) → k < l.place → get_or l.flags k false ≡ get_or l.problem.base k false;
  ahead : (k : ℕ) → l.place ≤ k → k < length l.flags → get_or l.flags k false ≡ true;
}
