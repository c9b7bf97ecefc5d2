use Rattle.std.proofs.Common.{refl}
use Rattle.std.specs.Fmt.{digits}
use Rattle.wfc_proof.proofs.text_laws.readings_by_example.Goals as goal

pub returns : goal.returns
unfolding digits
returns c = record {
  removes = refl;
  spans = refl;
  one = refl;
  other_format = (refl, refl);
  most = (refl, refl);
  too_large = refl;
  blanks = refl;
  digits = refl;
  backwards = refl;
  letters = refl;
}
