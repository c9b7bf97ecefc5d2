use Rattle.wfc_task.proofs.PosedLemmas.{given_posed, posed_given}
use Rattle.wfc_task.proofs.laws.posed_problems_are_given.Goals as goal

pub returns : goal.returns
returns c = record { problem = λ asked files P. (posed_given asked files P, given_posed asked files P) }
