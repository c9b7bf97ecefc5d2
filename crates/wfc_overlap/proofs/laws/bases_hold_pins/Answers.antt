use Rattle.wfc_overlap.proofs.SubjectLemmas.{base-holds, holds-base}
use Rattle.wfc_overlap.proofs.laws.bases_hold_pins.Goals as goal

pub returns : goal.returns
returns c = record {
  exactly = λ s x y p taught here inside. (
    base-holds s.patterns s.output s.pins taught x y p here inside,
    holds-base s.patterns s.output s.pins taught x y p here inside,
  );
}
