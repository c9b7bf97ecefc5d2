use Rattle.wfc_search.proofs.Runs.{map_legal, no_map_none, spent_volume}
use Rattle.wfc_search.proofs.laws.ends_tell.Goals as goal

pub returns : goal.returns
returns c = record { map = map_legal; no_map = no_map_none; spent = spent_volume }
