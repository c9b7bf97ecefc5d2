use Rattle.wfc_pattern.proofs.StepLemmas.{neighbours_agree}
use Rattle.wfc_pattern.proofs.laws.neighbouring_windows_agree.Goals as goal

pub returns : goal.returns
returns c = record { windows = neighbours_agree }
