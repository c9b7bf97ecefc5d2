use Rattle.std.proofs.Common.{arith}
use Rattle.wfc_run_commands.proofs.laws.races_are_asked_for_by_example.Goals as goal

pub returns-clause-last : goal.returns-clause-last
returns-clause-last c = record { some = omega arith; few = omega arith; fits = omega arith; quantum = omega arith }

pub returns-clause-none : goal.returns-clause-none
returns-clause-none c is = omega (arith, is.some)

pub returns-clause-nine : goal.returns-clause-nine
returns-clause-nine c is = omega (arith, is.few)

pub returns-clause-past : goal.returns-clause-past
returns-clause-past c is = omega (arith, is.fits)

pub returns-clause-idle : goal.returns-clause-idle
returns-clause-idle c is = omega (arith, is.quantum)
