use Rattle.wfc_search.proofs.Counts.{run_counts}
use Rattle.wfc_search.proofs.Proved.{run_proved}
use Rattle.wfc_search.proofs.laws.runs_tell_proofs.Goals as goal

pub returns : goal.returns
returns c = record { told = run_proved; counts = run_counts }
