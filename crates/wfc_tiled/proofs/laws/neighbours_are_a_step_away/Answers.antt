use Rattle.wfc_tiled.proofs.SubjectLemmas.{neighbour-step, step-neighbour}
use Rattle.wfc_tiled.proofs.laws.neighbours_are_a_step_away.Goals as goal

pub returns : goal.returns
returns c = record {
  exactly = λ s cell m d is inside other dir.
      (neighbour-step s.set s.mask s.wrap s.pins is cell m d inside other, step-neighbour s.set s.mask s.wrap s.pins is cell m d inside other dir);
}
