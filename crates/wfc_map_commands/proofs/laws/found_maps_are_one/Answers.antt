use Rattle.wfc_map_commands.proofs.FillMapLemmas.{found_once}
use Rattle.wfc_map_commands.proofs.laws.found_maps_are_one.Goals as goal
use Rattle.wfc_task.specs.Maps.{flat_maps}

pub returns : goal.returns
returns c = record { one = found_once flat_maps }
