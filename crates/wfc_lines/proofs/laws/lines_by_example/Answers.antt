use Rattle.std.proofs.Common.{refl}
use Rattle.std.specs.Fmt.{digits}
use Rattle.wfc_lines.proofs.laws.lines_by_example.Goals as goal

pub returns-clause-bad_byte : goal.returns-clause-bad_byte
unfolding digits
returns-clause-bad_byte c = refl
