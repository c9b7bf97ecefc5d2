use Rattle.wfc_tiled.proofs.SubjectLemmas.{base-holds, holds-base}
use Rattle.wfc_tiled.proofs.laws.bases_hold_pins.Goals as goal

pub returns : goal.returns
returns c = record {
  exactly = λ s cell v is placed pair.
      (base-holds s.set s.mask s.wrap s.pins is cell v pair.0 pair.1, holds-base s.set s.mask s.wrap s.pins is placed cell v pair.0 pair.1);
}
