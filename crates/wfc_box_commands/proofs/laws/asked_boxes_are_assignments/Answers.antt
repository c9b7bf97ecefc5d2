use Rattle.wfc_box_commands.proofs.BoxKindLemmas.{box_bridged}
use Rattle.wfc_box_commands.proofs.laws.asked_boxes_are_assignments.Goals as goal

pub returns-clause-made : goal.returns-clause-made
returns-clause-made c = λ asked files P posed frame a legal. (box_bridged asked files P posed frame).makes a legal

pub returns-clause-there : goal.returns-clause-there
returns-clause-there c = λ asked files P posed frame box legal. (box_bridged asked files P posed frame).assigned box legal
