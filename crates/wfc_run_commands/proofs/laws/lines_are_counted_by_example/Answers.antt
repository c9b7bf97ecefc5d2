use Rattle.std.proofs.Common.{refl}
use Rattle.std.specs.Fmt.{digits}
use Rattle.wfc_run_commands.proofs.laws.lines_are_counted_by_example.Goals as goal

pub returns-clause-last : goal.returns-clause-last
returns-clause-last c lines many = rw (many) refl

pub returns-clause-past : goal.returns-clause-past
returns-clause-past c lines many = rw (many) refl

pub returns-clause-told : goal.returns-clause-told
unfolding digits
returns-clause-told c = refl
