use Rattle.std.proofs.Common.{◌≡◌, length, nat_lt, true, false, refl, arith, ℕ}
use Rattle.std.proofs.lemmas.Bool.Decides.{nat_tests}
use Rattle.wfc_plan.proofs.laws.files_have_a_limit.Goals as goal

within : (n : ℕ) → n ≡ 16777216 → nat_lt 16777216 n ≡ false
within n is = grind (arith, nat_tests, is)

past : (n : ℕ) → n ≡ 16777217 → nat_lt 16777216 n ≡ true
past n is = grind (arith, nat_tests, is)

pub returns-clause-most : goal.returns-clause-most
returns-clause-most c files source name bytes there long = let test = within (length bytes) long in rw (there, test) refl

pub returns-clause-more : goal.returns-clause-more
returns-clause-more c files source name bytes there long = let test = past (length bytes) long in rw (there, test) refl
