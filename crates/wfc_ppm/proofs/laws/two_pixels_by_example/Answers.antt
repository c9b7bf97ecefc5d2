use Rattle.std.proofs.Common.{refl}
use Rattle.std.specs.Fmt.{digits}
use Rattle.wfc_ppm.proofs.laws.two_pixels_by_example.Goals as goal

pub returns-clause-raw_written : goal.returns-clause-raw_written
unfolding digits
returns-clause-raw_written c = refl

pub returns-clause-plain_written : goal.returns-clause-plain_written
unfolding digits
returns-clause-plain_written c = refl
