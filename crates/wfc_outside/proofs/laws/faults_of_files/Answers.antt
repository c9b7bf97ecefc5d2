use Rattle.std.proofs.Common.{[], ◌∷◌, codes, refl, arith}
use Rattle.wfc_outside.proofs.laws.faults_of_files.Goals as goal

pub returns-clause-fell : goal.returns-clause-fell
returns-clause-fell c = λ fault. omega (arith, fault.counts (codes "b"))

pub returns-clause-missing_fell : goal.returns-clause-missing_fell
returns-clause-missing_fell c = λ missing. omega (arith, missing.counts (codes "b"))

pub returns-clause-longer : goal.returns-clause-longer
returns-clause-longer c = (5 ∷ 6 ∷ 7 ∷ [], omega arith, refl)
