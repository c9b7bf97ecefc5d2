use Rattle.std.proofs.Common.{refl}
use Rattle.std.specs.Fmt.{digits}
use Rattle.wfc_run_commands.proofs.laws.race_ends_are_answered_by_example.Goals as goal

pub returns-clause-map : goal.returns-clause-map
unfolding digits
returns-clause-map c rule = refl

pub returns-clause-no_map : goal.returns-clause-no_map
unfolding digits
returns-clause-no_map c rule = refl
