use Rattle.std.proofs.Common.{refl}
use Rattle.wfc_run_commands.proofs.laws.races_are_measured_by_example.Goals as goal

pub returns-clause-last : goal.returns-clause-last
returns-clause-last c P cells many = rw (cells, many) refl

pub returns-clause-past : goal.returns-clause-past
returns-clause-past c P cells many = rw (cells, many) refl
