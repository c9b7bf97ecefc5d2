-- Texts in which each byte passes a test, and those in which none fails it.
use Rattle.std.proofs.Common.{◌≡◌, ℕ, ◌≤◌, List, length, Bool, None, not, ap, arith}
use Rattle.std.proofs.lemmas.Bool.{not-false}
use Rattle.std.proofs.lemmas.Bool.Decides.{nat_tests}
use Rattle.std.proofs.lemmas.List.Sums.{fails_before_first, position_or_len_is}
use Rattle.std.specs.List.{AllPass, position, position_or_len}

-- where no byte is found, the place of the first is past the end
past_end : (p : ℕ → Bool) (text : List ℕ) → position p text ≡ None → length text ≤ position_or_len p text
past_end p text none = grind (arith, nat_tests)

-- where no byte is found that fails the test, each passes it
pub all_pass : (p : ℕ → Bool) (text : List ℕ) → position (λ b. not (p b)) text ≡ None → AllPass p text
all_pass p text none k d inside =
    let past : length text ≤ position_or_len (λ b. not (p b)) text = past_end (λ b. not (p b)) text none in
    not-false _ (fails_before_first (λ b. not (p b)) text k d (omega arith))

-- where each byte passes the test, none is found that fails it
pub none_found : (p : ℕ → Bool) (text : List ℕ) → AllPass p text → position (λ b. not (p b)) text ≡ None
none_found p text pass =
    let past : position_or_len (λ b. not (p b)) text ≡ length text = position_or_len_is (λ b. not (p b)) text (length text) 0 (omega arith) (λ k below. ap not (pass k 0 below)) (λ below. absurd (omega arith)) in
    rw past (grind (arith, nat_tests))
