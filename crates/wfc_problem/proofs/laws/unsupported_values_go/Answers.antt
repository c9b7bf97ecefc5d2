use Rattle.wfc_problem.proofs.Cuts.{lies_supported, within_supported}
use Rattle.wfc_problem.proofs.laws.unsupported_values_go.Goals as goal

pub returns : goal.returns
returns c = record {
  legal = λ P p D a c v d legal none. lies_supported P p D a legal.0 legal.1 c v d none;
  consistent = within_supported;
}
