use Rattle.std.proofs.Common.{refl}
use Rattle.std.specs.Fmt.{digits}
use Rattle.wfc_proof.proofs.text_laws.texts_by_example.Goals as goal

pub returns : goal.returns
unfolding digits
returns c = record { removes = refl; spans = refl; tries = refl; empties = refl; ends = refl; head = refl; head_2 = refl }
