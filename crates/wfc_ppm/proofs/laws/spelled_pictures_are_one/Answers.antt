use Rattle.wfc_ppm.proofs.OneLemmas.{one_picture}
use Rattle.wfc_ppm.proofs.laws.spelled_pictures_are_one.Goals as goal

pub returns : goal.returns
returns c = record { one = one_picture }
