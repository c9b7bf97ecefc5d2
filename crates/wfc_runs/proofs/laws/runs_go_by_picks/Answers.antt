use Rattle.wfc_runs.proofs.AlikeLemmas.{runs_alike, turn_alike}
use Rattle.wfc_runs.proofs.laws.runs_go_by_picks.Goals as goal

pub returns : goal.returns
returns c = record { turns = turn_alike; runs = runs_alike }
