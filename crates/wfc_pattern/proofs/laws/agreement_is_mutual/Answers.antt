use Rattle.wfc_pattern.proofs.AgreementLemmas.{everywhere, tested}
use Rattle.wfc_pattern.proofs.StepLemmas.{opposite_agrees}
use Rattle.wfc_pattern.proofs.laws.agreement_is_mutual.Goals as goal

pub returns-clause-test : goal.returns-clause-test
returns-clause-test c n p q direction = (everywhere n p q direction, tested n p q direction)

pub returns-clause-opposite : goal.returns-clause-opposite
returns-clause-opposite c = opposite_agrees
