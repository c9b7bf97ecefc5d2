use Rattle.wfc_explain.proofs.ProblemLemmas.{sample_as_many, sample_kept}
use Rattle.wfc_explain.proofs.laws.kept_sample_lines_are_built.Goals as goal

pub returns : goal.returns
returns c = record { as_many = sample_as_many; built = sample_kept }
