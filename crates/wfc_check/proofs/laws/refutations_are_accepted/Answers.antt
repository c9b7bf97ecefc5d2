use Rattle.wfc_check.proofs.ExactLemmas.{accepted_refutation, refutation_accepted, refutation_none}
use Rattle.wfc_check.proofs.FaultLemmas.{checked_of_text}
use Rattle.wfc_check.proofs.laws.refutations_are_accepted.Goals as goal

pub returns-clause-exact : goal.returns-clause-exact
returns-clause-exact c = λ P p shape keeps text. (accepted_refutation P p shape text, refutation_accepted P p shape keeps text)

pub returns-clause-sound : goal.returns-clause-sound
returns-clause-sound c = λ P p shape text is. refutation_none P p shape text is

pub returns-clause-fault : goal.returns-clause-fault
returns-clause-fault c = checked_of_text
