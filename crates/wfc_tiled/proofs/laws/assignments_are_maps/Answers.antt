use Rattle.wfc_tiled.proofs.BridgeLemmas.{assignment_is_map}
use Rattle.wfc_tiled.proofs.laws.assignments_are_maps.Goals as goal

pub returns : goal.returns
returns c = record { legal = λ s. assignment_is_map s.set s.mask s.wrap s.pins }
