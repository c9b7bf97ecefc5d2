-- A problem whose base is kept without its flags where each of them is set.
use Rattle.std.specs.Prelude.{◌≡◌, ◌*◌, Bool, true, if◌then◌else◌, replicate}
use Rattle.std.specs.List.{list_all}
use Rattle.wfc_problem.specs.Network.{Network, values, IsProblem}

-- each cell may have each value
abbrev pub is_whole : Network → Bool
is_whole P = list_all (λ flag. flag) P.base

-- what the parts say, where `whole` stands for a base of which each flag is set
abbrev pub network_of : Bool → Network → Network
network_of whole P = record P { base = if whole then replicate (P.cells * values P) true else P.base }

-- they say a problem, and `whole` says whether each cell may have each value
pub record IsKept (whole : Bool) (P : Network) : Type 0 where
  pub problem : IsProblem (network_of whole P)
  pub told : is_whole (network_of whole P) ≡ whole
