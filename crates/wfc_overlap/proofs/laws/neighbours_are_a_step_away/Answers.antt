use Rattle.wfc_overlap.proofs.SubjectLemmas.{cell-place, place-cell, neighbour-step, step-neighbour}
use Rattle.wfc_overlap.proofs.laws.neighbours_are_a_step_away.Goals as goal

pub returns-clause-cells : goal.returns-clause-cells
returns-clause-cells c s cell inside = cell-place s.patterns s.output s.pins cell inside

pub returns-clause-places : goal.returns-clause-places
returns-clause-places c s x y here = place-cell s.patterns s.output s.pins x y here

pub returns-clause-exactly : goal.returns-clause-exactly
returns-clause-exactly c s x y u v d taught room dir here other = (
  neighbour-step s.patterns s.output s.pins x y u v d here other,
  step-neighbour s.patterns s.output s.pins taught room x y u v d here other dir,
)
