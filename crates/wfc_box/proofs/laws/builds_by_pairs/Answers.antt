use Rattle.std.proofs.Common.{Err, ap, if◌then◌else◌}
use Rattle.std.proofs.lemmas.Bool.{le-ltb, lt-ltb}
use Rattle.wfc_outside.specs.Gives.{result_map}
use Rattle.wfc_pins.specs.declared.fault.BuildFault.TheVariants.{TooLarge}
use Rattle.wfc_problem.specs.declared.TheConstants.{MAX_PAIRS}
use Rattle.wfc_box.specs.BoxProblem.{problem_of_box}
use Rattle.wfc_box.specs.Built.{box_pairs, box_pins_in}
use Rattle.wfc_box.proofs.laws.builds_by_pairs.Goals as goal

pub returns-clause-crowded : goal.returns-clause-crowded
returns-clause-crowded c set stacked frame lines many =
    ap (λ large. if large then Err (TooLarge (box_pairs set frame)) else result_map (problem_of_box set stacked frame) (box_pins_in set.tiles frame lines))
    (lt-ltb MAX_PAIRS (box_pairs set frame) many)

pub returns-clause-roomy : goal.returns-clause-roomy
returns-clause-roomy c set stacked frame lines few =
    ap (λ large. if large then Err (TooLarge (box_pairs set frame)) else result_map (problem_of_box set stacked frame) (box_pins_in set.tiles frame lines))
    (le-ltb MAX_PAIRS (box_pairs set frame) few)
