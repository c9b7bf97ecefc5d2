use Rattle.std.proofs.Common.{refl}
use Rattle.std.specs.Fmt.{digits}
use Rattle.wfc_map_commands.proofs.laws.demonstrations_by_example.Goals as goal

pub returns : goal.returns
unfolding digits
returns c = record { lines = refl }
