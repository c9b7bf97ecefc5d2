use Rattle.wfc_tiled.proofs.SubjectLemmas.{support-above, support-below, support-left, support-right}
use Rattle.wfc_tiled.proofs.laws.supports_are_allowed.Goals as goal

pub returns : goal.returns
returns c = record {
  left = λ s. support-left s.set s.mask s.wrap s.pins;
  below = λ s. support-below s.set s.mask s.wrap s.pins;
  right = λ s. support-right s.set s.mask s.wrap s.pins;
  above = λ s. support-above s.set s.mask s.wrap s.pins;
}
