use Rattle.std.proofs.Common.{ap}
use Rattle.wfc_outside.specs.Gives.{result_map}
use Rattle.wfc_overlap.specs.Sample.{problem_of_sample}
use Rattle.wfc_overlap.proofs.BuiltLemmas.{crowded_pins, roomy_pins}
use Rattle.wfc_overlap.proofs.examples.builds_by_pairs.Goals as goal

pub returns-clause-crowded_pins : goal.returns-clause-crowded_pins
returns-clause-crowded_pins c = crowded_pins

pub returns-clause-roomy_pins : goal.returns-clause-roomy_pins
returns-clause-roomy_pins c = roomy_pins

pub returns-clause-crowded : goal.returns-clause-crowded
returns-clause-crowded c p s o lines crowd = ap (result_map (problem_of_sample p o)) (crowded_pins p s o lines crowd)

pub returns-clause-roomy : goal.returns-clause-roomy
returns-clause-roomy c p s o lines room = ap (result_map (problem_of_sample p o)) (roomy_pins p s o lines room)
