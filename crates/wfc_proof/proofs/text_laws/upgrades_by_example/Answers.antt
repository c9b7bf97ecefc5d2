use Rattle.std.proofs.Common.{refl}
use Rattle.std.specs.Fmt.{digits}
use Rattle.wfc_proof.proofs.text_laws.upgrades_by_example.Goals as goal

pub returns : goal.returns
unfolding digits
returns c = record { one = refl; two = refl }
