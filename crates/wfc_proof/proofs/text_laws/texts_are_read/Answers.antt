use Rattle.std.proofs.Common.{refl}
use Rattle.std.specs.Fmt.{digits}
use Rattle.wfc_proof.proofs.TellingLemmas.{nothing_lost}
use Rattle.wfc_proof.proofs.text_laws.texts_are_read.Goals as goal

pub returns : goal.returns
unfolding digits
returns c = record { told = refl; other_format = refl; anew = refl; whole = nothing_lost }
