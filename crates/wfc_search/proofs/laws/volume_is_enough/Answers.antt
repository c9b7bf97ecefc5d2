use Rattle.wfc_search.proofs.Runs.{volume_enough}
use Rattle.wfc_search.proofs.laws.volume_is_enough.Goals as goal

pub returns : goal.returns
returns c = record { enough = volume_enough }
