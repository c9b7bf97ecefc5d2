use Rattle.std.proofs.Common.{arith}
use Rattle.wfc_pattern.proofs.LearningLemmas.{taught_are_patterns}
use Rattle.wfc_pattern.proofs.SmallLemmas.{ones_are_patterns}
use Rattle.wfc_pattern.proofs.laws.taught_patterns.Goals as goal

pub returns-clause-taught : goal.returns-clause-taught
returns-clause-taught c sample n s wrap patterns fit =
    taught_are_patterns sample n s wrap patterns fit.0 fit.1 fit.2 fit.3 fit.4 fit.5

pub returns-clause-most : goal.returns-clause-most
returns-clause-most c = ones_are_patterns 4096 (omega arith) (omega arith)
