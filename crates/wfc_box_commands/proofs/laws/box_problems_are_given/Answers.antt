use Rattle.wfc_box_commands.proofs.BoxGivenLemmas.{box_posed, posed_box_given}
use Rattle.wfc_box_commands.proofs.laws.box_problems_are_given.Goals as goal

pub returns : goal.returns
returns c = record { problem = λ asked files P. (box_posed asked files P, posed_box_given asked files P) }
