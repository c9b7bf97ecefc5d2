use Rattle.wfc_ppm.proofs.PpmLemmas.{read-spelled, spelled-read}
use Rattle.wfc_ppm.proofs.laws.spelled_pictures_are_read.Goals as goal

pub returns : goal.returns
returns c = record { read = λ text ppm bytes. (read-spelled text ppm bytes, (λ both. spelled-read text ppm both.0 both.1)) }
