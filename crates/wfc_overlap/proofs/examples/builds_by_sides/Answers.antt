use Rattle.std.proofs.Common.{ap}
use Rattle.wfc_outside.specs.Gives.{result_map}
use Rattle.wfc_overlap.specs.Sample.{problem_of_sample}
use Rattle.wfc_overlap.proofs.BuiltLemmas.{low_pins, narrow_pins}
use Rattle.wfc_overlap.proofs.examples.builds_by_sides.Goals as goal

pub returns-clause-narrow_pins : goal.returns-clause-narrow_pins
returns-clause-narrow_pins c = narrow_pins

pub returns-clause-low_pins : goal.returns-clause-low_pins
returns-clause-low_pins c = low_pins

pub returns-clause-narrow : goal.returns-clause-narrow
returns-clause-narrow c p s o lines below = ap (result_map (problem_of_sample p o)) (narrow_pins p s o lines below)

pub returns-clause-low : goal.returns-clause-low
returns-clause-low c p s o lines below = ap (result_map (problem_of_sample p o)) (low_pins p s o lines below)
