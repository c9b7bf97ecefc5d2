use Rattle.std.proofs.Common.{refl}
use Rattle.std.specs.Fmt.{digits}
use Rattle.wfc_grow_command.proofs.laws.stuck_blocks_are_written_so.Goals as goal

pub returns-clause-text : goal.returns-clause-text
unfolding digits
returns-clause-text c = refl

pub returns-clause-read : goal.returns-clause-read
unfolding digits
returns-clause-read c = refl
