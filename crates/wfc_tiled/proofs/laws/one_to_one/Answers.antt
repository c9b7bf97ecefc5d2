use Rattle.wfc_tiled.proofs.BridgeLemmas.{map_again, assignment_again}
use Rattle.wfc_tiled.proofs.laws.one_to_one.Goals as goal

pub returns : goal.returns
returns c = record { maps = λ s. map_again s.set s.mask s.wrap s.pins; assignments = λ s. assignment_again s.set s.mask s.wrap s.pins }
