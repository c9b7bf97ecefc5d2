use Rattle.std.proofs.Common.{◌≡◌, length, nat_lt, true, refl, arith, ℕ}
use Rattle.std.proofs.lemmas.Bool.Decides.{nat_tests}
use Rattle.wfc_task.proofs.laws.long_files_are_refused.Goals as goal

past : (n : ℕ) → n ≡ 16777217 → nat_lt 16777216 n ≡ true
past n is = grind (arith, nat_tests, is)

pub returns-clause-sample : goal.returns-clause-sample
returns-clause-sample c asked files is = let there = is.there in let test = past (length is.bytes) is.long in rw (there, test) refl

pub returns-clause-document : goal.returns-clause-document
returns-clause-document c asked files is = let there = is.there in let test = past (length is.bytes) is.long in rw (there, test) refl

pub returns-clause-picture : goal.returns-clause-picture
returns-clause-picture c set files name is = let there = is.there in let test = past (length is.bytes) is.long in rw (there, test) refl

pub returns-clause-pins : goal.returns-clause-pins
returns-clause-pins c files name is = let there = is.there in let test = past (length is.bytes) is.long in rw (there, test) refl

pub returns-clause-mask : goal.returns-clause-mask
returns-clause-mask c asked files name is = let there = is.there in let test = past (length is.bytes) is.long in rw (there, test) refl
