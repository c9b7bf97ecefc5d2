-- What is left of a file that is read line by line makes a whole file, to which the answer is that to what is left.
use Rattle.std.proofs.Common.{◌≡◌, ℕ, ◌+◌, ◌≤◌, List, [], ◌∷◌, ◌++◌, length, Option, None, Some, Result, Ok, Err, refl, sym, ap, ◌∙◌, subst, arith, append_assoc, length-append}
use Rattle.std.specs.Prelude.{OnOk}
use Rattle.wfc_outside.specs.Folder.{File, FolderView, IsToldAs}
use Rattle.wfc_problem.specs.Network.{Network, IsProblem}
use Rattle.wfc_proof.specs.declared.heads.Shape.{Shape}
use Rattle.wfc_check.specs.Answered.{Answers, IsToldRefutation}
use Rattle.wfc_check.specs.Checker.{checker_problem, HasNone}
use Rattle.wfc_check.specs.Reading.{reading_place, reads_for, IsOpenedFor}
use Rattle.wfc_check.specs.Stream.{Gave, IsLeft, IsLongLine, IsOver, IsShortLine, HasReadFile, FileStreamView, fresh_view}
use Rattle.wfc_check.specs.Text.{TextPlace, line_led, at_start, answer_from, answer_at_end, and_read, checked}
use Rattle.wfc_check.specs.declared.fault.CheckFault.{CheckFault}
use Rattle.wfc_check.specs.declared.fault.CheckFault.TheVariants.{BadLine, TooLong}
use Rattle.wfc_check.specs.declared.reading.Reading.{Reading}
use Rattle.wfc_check.proofs.ExactLemmas.{accepted_refutation, accepted_none}
use Rattle.wfc_check.proofs.FaultLemmas.{answers_of_file}
use Rattle.wfc_check.proofs.TextLemmas.{answer-feed, answer-end, answer-over, answer-long}

-- the answer to what is left is that to a whole file
abbrev pub Whole : Network → Shape → Option (List File) → List ℕ → FileStreamView → ℕ → TextPlace → Type 0
Whole P shape contents name stream number at =
    (left : List ℕ) → IsLeft contents stream left → (bytes : List ℕ) × IsToldAs contents name bytes × (checked P shape bytes ≡ answer_from P shape stream.room number at left)

-- where a text is read from a stream
pub record IsAt (P : Network) (shape : Shape) (contents : Option (List File)) (name : List ℕ) (stream : FileStreamView) (reading : Reading) : Type 0 where
  pub holds : reads_for reading ≡ (P, shape)
  pub few : reading.number + stream.room ≤ 4294967297
  pub keeps : HasReadFile contents stream
  pub whole : Whole P shape contents name stream reading.number (reading_place reading)

whole_start : (P : Network) (shape : Shape) (contents : Option (List File)) (name : List ℕ) → Whole P shape contents name (fresh_view name 4294967296) 1 (at_start P)
unfolding checked
whole_start P shape contents name = λ left is. (left, told contents left is, refl)
  where
    told : (contents : Option (List File)) (left : List ℕ) → IsLeft contents (fresh_view name 4294967296) left → IsToldAs contents name left
    told None left is = tt
    told (Some files) left is = is.told.1 ∙ ap Some (sym (is.is ∙ is.told.2))

pub at_first : (P : Network) (shape : Shape) (contents : Option (List File)) (name : List ℕ) (stream : FileStreamView) (reading : Reading) → stream ≡ fresh_view name 4294967296 → IsOpenedFor P shape reading
    → IsAt P shape contents name stream reading
at_first P shape contents name stream reading fresh opened = record {
  holds = opened.holds;
  few = omega (arith, opened.first, ap (λ (s : FileStreamView). s.room) fresh);
  keeps = λ some. absurd (omega (arith, ap (λ (s : FileStreamView). length s.kept) fresh, some));
  whole = subst (λ s. Whole P shape contents name s reading.number (reading_place reading)) (sym fresh)
      (subst (λ n. Whole P shape contents name (fresh_view name 4294967296) n (reading_place reading)) (sym opened.first)
      (subst (Whole P shape contents name (fresh_view name 4294967296) 1) (sym opened.start) (whole_start P shape contents name)));
}

-- what a line is held to
held : (P : Network) (shape : Shape) (reading : Reading) (line : List ℕ) → reads_for reading ≡ (P, shape)
    → line_led (checker_problem reading.checker) reading.shape.now reading.number (reading_place reading) line ≡ line_led P shape reading.number (reading_place reading) line
held P shape reading line holds = ap (λ (both : Network × Shape). line_led both.0 both.1 reading.number (reading_place reading) line) holds

-- a line that the stream gave with its end
record Fed (P : Network) (shape : Shape) (contents : Option (List File)) (name : List ℕ) (new : FileStreamView) (reading : Reading) (line left : List ℕ) : Type 0 where
  bytes : List ℕ
  told : IsToldAs contents name bytes
  answer : checked P shape bytes ≡ and_read (line_led (checker_problem reading.checker) reading.shape.now reading.number (reading_place reading) line) (λ after. answer_from P shape new.room (reading.number + 1) after left)

fed : (P : Network) (shape : Shape) (contents : Option (List File)) (name : List ℕ) (old new : FileStreamView) (reading : Reading) (line left : List ℕ) → IsAt P shape contents name old reading → IsShortLine line
    → Gave contents old new (line ++ 10 ∷ []) → IsLeft contents new left → Fed P shape contents name new reading line left
fed P shape contents name old new reading line left at short gave is =
    let before = at.whole ((line ++ 10 ∷ []) ++ left) (gave.steps.back left is) in
    let room : old.room ≡ new.room + (length line + 1) = gave.steps.room ∙ ap (λ n. new.room + n) (length-append line (10 ∷ [])) in
    let text : (line ++ 10 ∷ []) ++ left ≡ line ++ 10 ∷ left = append_assoc line (10 ∷ []) left in
    record {
      bytes = before.0;
      told = before.1;
      answer = before.2
          ∙ (λ i. answer_from P shape (room i) reading.number (reading_place reading) (text i))
          ∙ answer-feed P shape new.room reading.number (reading_place reading) line left short.plain
          ∙ ap (λ (led : Result TextPlace CheckFault). and_read led (λ after. answer_from P shape new.room (reading.number + 1) after left)) (sym (held P shape reading line at.holds));
    }

pub at_next : (P : Network) (shape : Shape) (contents : Option (List File)) (name : List ℕ) (old new : FileStreamView) (before after : Reading) (line : List ℕ) → IsAt P shape contents name old before → IsShortLine line
    → Gave contents old new (line ++ 10 ∷ []) → line_led (checker_problem before.checker) before.shape.now before.number (reading_place before) line ≡ Ok (reading_place after) → reads_for after ≡ reads_for before
    → after.number ≡ before.number + 1 → IsAt P shape contents name new after
at_next P shape contents name old new before after line at short gave led same next = record {
  holds = same ∙ at.holds;
  few = omega (arith, at.few, next, gave.steps.room, length-append line (10 ∷ []));
  keeps = λ _. gave.left at.keeps;
  whole = λ left is.
      let all = fed P shape contents name old new before line left at short gave is in (
        all.bytes,
        all.told,
        all.answer ∙ ap (λ (r : Result TextPlace CheckFault). and_read r (λ q. answer_from P shape new.room (before.number + 1) q left)) led
            ∙ ap (λ n. answer_from P shape new.room n (reading_place after) left) (sym next),
      );
}

-- the answer to a whole file, in a folder that is seen as before
answers : (P : Network) (shape : Shape) (name : List ℕ) (old new : FolderView) (answer : Result (Unit {0}) CheckFault) (bytes : List ℕ) → new ≡ old → IsToldAs old.contents name bytes → checked P shape bytes ≡ answer
    → Answers P shape name old new answer
answers P shape name old new answer bytes same told is = answers_of_file P shape name old new answer (record { same = same; bytes = bytes; told = told; is = is })

-- a line is at fault
pub answers_bad : (P : Network) (shape : Shape) (name : List ℕ) (before after : FolderView) (old new : FileStreamView) (reading : Reading) (line : List ℕ) (fault : CheckFault) → after ≡ before
    → IsAt P shape before.contents name old reading → IsShortLine line → Gave before.contents old new (line ++ 10 ∷ [])
    → line_led (checker_problem reading.checker) reading.shape.now reading.number (reading_place reading) line ≡ Err fault → Answers P shape name before after (Err fault)
answers_bad P shape name before after old new reading line fault same at short gave led =
    let left = gave.left at.keeps in
    let all = fed P shape before.contents name old new reading line left.0 at short gave left.1 in
    answers P shape name before after (Err fault) all.bytes same all.told
    (all.answer ∙ ap (λ (r : Result TextPlace CheckFault). and_read r (λ q. answer_from P shape new.room (reading.number + 1) q left.0)) led)

-- a line is too long
pub answers_long : (P : Network) (shape : Shape) (name : List ℕ) (before after : FolderView) (old new : FileStreamView) (reading : Reading) (line : List ℕ) (fault : CheckFault) → after ≡ before
    → IsAt P shape before.contents name old reading → IsLongLine line → Gave before.contents old new line → fault ≡ BadLine reading.number → Answers P shape name before after (Err fault)
answers_long P shape name before after old new reading line fault same at long gave is =
    let left = gave.left at.keeps in
    let all = at.whole (line ++ left.0) (gave.steps.back left.0 left.1) in
    answers P shape name before after (Err fault) all.0 same all.1
    (all.2 ∙ ap (λ room. answer_from P shape room reading.number (reading_place reading) (line ++ left.0)) gave.steps.room
    ∙ answer-long P shape new.room reading.number (reading_place reading) line left.0 long.plain long.long
    ∙ ap (λ (f : CheckFault). let r : Result (Unit {0}) CheckFault = Err f in r) (sym is))

-- the file ends
pub answers_end : (P : Network) (shape : Shape) (name : List ℕ) (before after : FolderView) (old : FileStreamView) (reading : Reading) (line : List ℕ) (answer : Result (Unit {0}) CheckFault) → after ≡ before
    → IsAt P shape before.contents name old reading → IsShortLine line → length line ≤ old.room → IsLeft before.contents old line → answer ≡ answer_at_end reading.number (reading_place reading) line
    → Answers P shape name before after answer
answers_end P shape name before after old reading line answer same at short within is ended =
    let all = at.whole line is in
    answers P shape name before after answer all.0 same all.1 (all.2 ∙ answer-end P shape old.room reading.number (reading_place reading) line short.plain within ∙ sym ended)

-- the file is too long
pub answers_over : (P : Network) (shape : Shape) (name : List ℕ) (before after : FolderView) (old : FileStreamView) (reading : Reading) (line : List ℕ) → after ≡ before
    → IsAt P shape before.contents name old reading → IsShortLine line → IsOver before.contents old line → Answers P shape name before after (Err TooLong)
answers_over P shape name before after old reading line same at short over =
    let more = over.more at.keeps in
    let all = at.whole (line ++ more.0) more.2 in
    answers P shape name before after (Err TooLong) all.0 same all.1
    (all.2 ∙ answer-over P shape old.room reading.number (reading_place reading) line more.0 short.plain short.short over.room more.1)

-- an accepted file is a refutation, and shows that there is no legal assignment
pub answers_refutation : (P : Network) → IsProblem P → (shape : Shape) (name : List ℕ) (old new : FolderView) (answer : Result (Unit {0}) CheckFault) → Answers P shape name old new answer
    → OnOk answer (IsToldRefutation P shape old.contents name)
answers_refutation P p shape name old new (Ok done) of = (of.bytes, of.told, accepted_refutation P p shape of.bytes of.is)
answers_refutation P p shape name old new (Err fault) of = tt

pub answers_none : (P : Network) → IsProblem P → (shape : Shape) (name : List ℕ) (old new : FolderView) (answer : Result (Unit {0}) CheckFault) → Answers P shape name old new answer → OnOk answer (HasNone P)
answers_none P p shape name old new (Ok done) of = accepted_none P p shape of.bytes of.is
answers_none P p shape name old new (Err fault) of = tt
