use Rattle.std.proofs.Common.{refl}
use Rattle.std.specs.Fmt.{digits}
use Rattle.wfc_cli.proofs.laws.unread_files_are_told_by_example.Goals as goal

pub returns-clause-missing : goal.returns-clause-missing
unfolding digits
returns-clause-missing c = refl

pub returns-clause-failed : goal.returns-clause-failed
unfolding digits
returns-clause-failed c = refl

pub returns-clause-long : goal.returns-clause-long
unfolding digits
returns-clause-long c = refl
