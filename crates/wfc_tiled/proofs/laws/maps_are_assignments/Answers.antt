use Rattle.wfc_tiled.proofs.BridgeLemmas.{map_is_assignment}
use Rattle.wfc_tiled.proofs.laws.maps_are_assignments.Goals as goal

pub returns : goal.returns
returns c = record { legal = λ s. map_is_assignment s.set s.mask s.wrap s.pins }
