-- What holds of the parts that a trail is kept in.
use Rattle.std.specs.Prelude.{◌≡◌, ℕ, ◌*◌, ◌≤◌, Bool, List, [], IsTrue, length}
use Rattle.wfc_problem.specs.Network.{Network, IsProblem, values, has_flag, in_base}
use Rattle.wfc_problem.specs.Rounds.{depth_of}
use Rattle.wfc_check.specs.Entries.{domains_left, waiting_branches, are_stood}
use Rattle.wfc_check.specs.declared.trail.Entry.{Entry}

-- the flags are those of what stands, no more branches wait than there are pairs, and there is room for both
pub record AreKept (P : Network) (flags : List Bool) (entries : List Entry) (room : ℕ) : Type 0 where
  pub problem : IsProblem P
  pub whole : length flags ≡ P.cells * values P
  pub each : (c v : ℕ) → has_flag (values P) flags c v ≡ domains_left (in_base P) entries c v
  pub stood : IsTrue (are_stood (in_base P) entries)
  pub few : length (waiting_branches (in_base P) [] entries) ≤ depth_of P
  pub fits : 2 * depth_of P ≤ room
