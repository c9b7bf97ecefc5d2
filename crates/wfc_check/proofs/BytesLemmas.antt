-- The answer to bytes of which some lines were read is that to those that are left.
use Rattle.std.proofs.Common.{◌≡◌, ℕ, ◌+◌, ◌≤◌, List, ◌∷◌, ◌++◌, length, inl, Result, Ok, Err, sym, ap, ◌∙◌, arith, length-append}
use Rattle.std.specs.Prelude.{OnOk}
use Rattle.wfc_outside.specs.Gives.{Gives}
use Rattle.wfc_outside.proofs.CallerLemmas.{gives_value}
use Rattle.wfc_problem.specs.Network.{Network, IsProblem}
use Rattle.wfc_proof.specs.declared.heads.Shape.{Shape}
use Rattle.wfc_check.specs.Checker.{checker_problem, HasNone}
use Rattle.wfc_check.specs.Lines.{HasNoLineFeed}
use Rattle.wfc_check.specs.Reading.{reading_place, reads_for, IsOpenedFor}
use Rattle.wfc_check.specs.Text.{TextPlace, line_led, at_start, answer_from, answer_at_end, and_read, checked, IsRefutation}
use Rattle.wfc_check.specs.declared.fault.CheckFault.{CheckFault}
use Rattle.wfc_check.specs.declared.fault.CheckFault.TheVariants.{NoMemory}
use Rattle.wfc_check.specs.declared.reading.Reading.{Reading}
use Rattle.wfc_check.proofs.ExactLemmas.{accepted_refutation, accepted_none}
use Rattle.wfc_check.proofs.TextLemmas.{answer-feed, answer-end, answer-within}

pub record IsAhead (P : Network) (shape : Shape) (bytes rest : List ℕ) (reading : Reading) : Type 0 where
  pub holds : reads_for reading ≡ (P, shape)
  pub few : reading.number + length rest ≤ 4294967297
  pub ahead : checked P shape bytes ≡ answer_from P shape (length rest) reading.number (reading_place reading) rest

pub ahead_start : (P : Network) (shape : Shape) (bytes : List ℕ) (reading : Reading) → length bytes ≤ 4294967296 → IsOpenedFor P shape reading → IsAhead P shape bytes bytes reading
unfolding checked
ahead_start P shape bytes reading within opened = record {
  holds = opened.holds;
  few = omega (arith, opened.first);
  ahead = answer-within P shape 4294967296 1 (at_start P) bytes within
      ∙ sym (answer-within P shape (length bytes) 1 (at_start P) bytes (omega arith))
      ∙ (λ i. answer_from P shape (length bytes) (sym opened.first i) (sym opened.start i) bytes);
}

-- what a line is held to
held : (P : Network) (shape : Shape) (reading : Reading) (line : List ℕ) → reads_for reading ≡ (P, shape)
    → line_led (checker_problem reading.checker) reading.shape.now reading.number (reading_place reading) line ≡ line_led P shape reading.number (reading_place reading) line
held P shape reading line holds = ap (λ (both : Network × Shape). line_led both.0 both.1 reading.number (reading_place reading) line) holds

-- the first line of what is left, and what is behind it
split : (P : Network) (shape : Shape) (bytes rest line left : List ℕ) (reading : Reading) → IsAhead P shape bytes rest reading → rest ≡ line ++ 10 ∷ left → HasNoLineFeed line
    → checked P shape bytes ≡ and_read (line_led (checker_problem reading.checker) reading.shape.now reading.number (reading_place reading) line) (λ after. answer_from P shape (length left) (reading.number + 1) after left)
split P shape bytes rest line left reading is cut plain =
    let long : length (line ++ 10 ∷ left) ≡ length left + (length line + 1) = omega (arith, length-append line (10 ∷ left)) in
    is.ahead ∙ ap (λ text. answer_from P shape (length text) reading.number (reading_place reading) text) cut
    ∙ ap (λ n. answer_from P shape n reading.number (reading_place reading) (line ++ 10 ∷ left)) long
    ∙ answer-feed P shape (length left) reading.number (reading_place reading) line left plain
    ∙ ap (λ (led : Result TextPlace CheckFault). and_read led (λ after. answer_from P shape (length left) (reading.number + 1) after left)) (sym (held P shape reading line is.holds))

pub ahead_on : (P : Network) (shape : Shape) (bytes rest line left : List ℕ) (old new : Reading) → IsAhead P shape bytes rest old → rest ≡ line ++ 10 ∷ left → HasNoLineFeed line
    → line_led (checker_problem old.checker) old.shape.now old.number (reading_place old) line ≡ Ok (reading_place new) → reads_for new ≡ reads_for old → new.number ≡ old.number + 1 → IsAhead P shape bytes left new
ahead_on P shape bytes rest line left old new is cut plain led same next = record {
  holds = same ∙ is.holds;
  few = omega (arith, is.few, next, ap length cut, length-append line (10 ∷ left));
  ahead = split P shape bytes rest line left old is cut plain
      ∙ ap (λ (r : Result TextPlace CheckFault). and_read r (λ after. answer_from P shape (length left) (old.number + 1) after left)) led
      ∙ ap (λ n. answer_from P shape (length left) n (reading_place new) left) (sym next);
}

pub ahead_bad : (P : Network) (shape : Shape) (bytes rest line left : List ℕ) (old : Reading) (fault : CheckFault) → IsAhead P shape bytes rest old → rest ≡ line ++ 10 ∷ left → HasNoLineFeed line
    → line_led (checker_problem old.checker) old.shape.now old.number (reading_place old) line ≡ Err fault → checked P shape bytes ≡ Err fault
ahead_bad P shape bytes rest line left old fault is cut plain led =
    split P shape bytes rest line left old is cut plain ∙ ap (λ (r : Result TextPlace CheckFault). and_read r (λ after. answer_from P shape (length left) (old.number + 1) after left)) led

pub ahead_end : (P : Network) (shape : Shape) (bytes rest : List ℕ) (old : Reading) → IsAhead P shape bytes rest old → HasNoLineFeed rest → checked P shape bytes ≡ answer_at_end old.number (reading_place old) rest
ahead_end P shape bytes rest old is plain = is.ahead ∙ answer-end P shape (length rest) old.number (reading_place old) rest plain (omega arith)

-- an answer that is the one wanted
pub gives_answer : (answer wanted : Result (Unit {0}) CheckFault) → answer ≡ wanted → Gives NoMemory (λ done. done) answer wanted
gives_answer (Ok done) wanted is = inl is
gives_answer (Err fault) wanted is = inl is

-- what an accepted text is, and what it shows
pub answer_refutation : (P : Network) → IsProblem P → (shape : Shape) (bytes : List ℕ) (answer : Result (Unit {0}) CheckFault) → Gives NoMemory (λ done. done) answer (checked P shape bytes)
    → OnOk answer (IsRefutation P shape bytes)
answer_refutation P p shape bytes (Ok done) gives = accepted_refutation P p shape bytes (gives_value NoMemory (λ d. d) done (checked P shape bytes) gives)
answer_refutation P p shape bytes (Err fault) gives = tt

pub answer_none : (P : Network) → IsProblem P → (shape : Shape) (bytes : List ℕ) (answer : Result (Unit {0}) CheckFault) → Gives NoMemory (λ done. done) answer (checked P shape bytes)
    → OnOk answer (HasNone P)
answer_none P p shape bytes (Ok done) gives = accepted_none P p shape bytes (gives_value NoMemory (λ d. d) done (checked P shape bytes) gives)
answer_none P p shape bytes (Err fault) gives = tt
