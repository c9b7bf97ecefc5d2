use Rattle.std.proofs.Common.{refl}
use Rattle.std.specs.Fmt.{digits}
use Rattle.wfc_proof.proofs.text_laws.heads_by_example.Goals as goal

pub returns : goal.returns
unfolding digits
returns c = record { format = refl; numbers = refl; zero_first = refl; exchanged = refl; shape = refl; too_large = refl; too_few = refl; most = refl }
