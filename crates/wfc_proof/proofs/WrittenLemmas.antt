-- What a sink took, where a journal over it was told lines.
use Rattle.std.proofs.Common.{◌≡◌, ℕ, ◌+◌, ◌<◌, ◌≤◌, Bool, true, false, List, [], ◌∷◌, ◌++◌, length, take, Option, None, Some, Result, Ok, Err, refl, sym, ap, ◌∙◌, arith, inl, inr, append_assoc, append-nil, length-append, length-take}
use Rattle.std.specs.Prelude.{◌==◌, ◌||◌, if◌then◌else◌}
use Rattle.std.specs.List.{list_any}
use Rattle.std.specs.Option.{option_map}
use Rattle.std.specs.Borrow.{GName}
use Rattle.std.proofs.Math.Seq.{take-append-add, take-nil}
use Rattle.std.proofs.lemmas.Bool.{cases_lt, false≢true}
use Rattle.std.proofs.lemmas.List.{take_all}
use Rattle.std.proofs.lemmas.List.Folds.{list_any-append}
use Rattle.wfc_outside.specs.Sink.{Taken, SinkView, with_bytes, after_bytes, IsFaultAfterFront}
use Rattle.wfc_proof.specs.Journal.{JournalView, Target, after_lines, IsCutOff}
use Rattle.wfc_proof.specs.Spans.{counted_lines, growing_part, settled_part, line_if_any, Joined, nothing_joined, apart, join_on, all_joined, in_spans, spans_of, ending, joined_as, AreJoined, IsSpanning}
use Rattle.wfc_proof.specs.Heads.{with_line_end}
use Rattle.wfc_proof.specs.Text.{line_text}
use Rattle.wfc_proof.specs.Telling.{IsCutShort, Reading, and_line, line_in, read_byte, read_on, read_text, lines_at_end, before_lines, part_at_end, text_of, journal_of, refused_lines, IsAt, new_journal}
use Rattle.wfc_proof.specs.declared.Line.{Line}
use Rattle.wfc_proof.specs.declared.heads.Format.{Format}
use Rattle.wfc_proof.specs.declared.text.LineFault.{LineFault}
use Rattle.wfc_proof.proofs.Joins.{spans_some}
use Rattle.wfc_proof.specs.declared.heads.Format.TheVariants.{One, Two}
use Rattle.wfc_proof.proofs.SpanLemmas.{settled_growing}
use Rattle.wfc_proof.proofs.TellingLemmas.{nothing_lost, text_of-append}

-- bytes that are not finished, with more behind them
put_behind : (before : Taken) (bytes more : List ℕ) (finished : Bool) → before.finished ≡ false → finished ≡ false → bytes ≡ before.bytes ++ more
    → (let t : Taken = record { bytes = bytes; finished = finished } in t) ≡ with_bytes before more
put_behind before bytes [] finished is ends same = λ i. record { bytes = (same ∙ append-nil before.bytes) i; finished = (ends ∙ sym is) i }
put_behind before bytes (b ∷ more) finished is ends same = λ i. record { bytes = same i; finished = ends i }

-- a sink that took these bytes before the lines, where they are told, and then a front of the text of what waits behind them
taken_parts : (format : Format) (taken before : Taken) (waits : List Line) → IsAt format (Some taken) waits → before_lines format taken ≡ before
    → taken ≡ with_bytes before (text_of (lines_at_end format taken) ++ take (length (part_at_end format taken)) (text_of waits))
taken_parts format taken before waits at is =
    let part : part_at_end format taken ≡ take (length (part_at_end format taken)) (text_of waits) = cc (at.0) in
    let ends : taken.finished ≡ false = cc (at.1) in
    let read : Reading = read_text format taken.bytes in
    put_behind before taken.bytes (text_of read.lines ++ take (length read.part) (text_of waits)) taken.finished (sym (ap (λ (t : Taken). t.finished) is) ∙ ends) ends
    (sym (nothing_lost format taken.bytes) ∙ ap (λ (t : Taken). t.bytes ++ (text_of read.lines ++ read.part)) is ∙ ap (λ p. before.bytes ++ (text_of read.lines ++ p)) part)

-- a front of a text and all of what stands before it
take_all_front : (xs ys : List ℕ) (n : ℕ) → xs ++ take n ys ≡ take (length xs + n) (xs ++ ys)
take_all_front xs ys n = sym (take-append-add xs ys n)

-- ---- format 2

-- the lines that are told are joined to these
told_joined : (lines told : List Line) (kept refused : Option Line) → join_on nothing_joined (counted_lines (lines ++ (line_if_any kept ++ line_if_any refused))) ≡ joined_as kept refused lines
    → counted_lines (lines ++ (line_if_any kept ++ line_if_any refused)) ≡ told → in_spans told ≡ lines ++ (line_if_any kept ++ line_if_any refused)
told_joined lines told kept None joined are =
    ap in_spans (sym are) ∙ ap all_joined joined ∙ ap (λ ls. lines ++ ls) (sym (append-nil (line_if_any kept)))
told_joined lines told kept (Some refused) joined are =
    ap in_spans (sym are) ∙ ap all_joined joined
    ∙ ap (λ ls. ls ++ line_if_any (growing_part refused)) (sym (append_assoc lines (line_if_any kept) (settled_part refused)))
    ∙ append_assoc (lines ++ line_if_any kept) (settled_part refused) (line_if_any (growing_part refused))
    ∙ ap (λ ls. (lines ++ line_if_any kept) ++ ls) (settled_growing refused)
    ∙ append_assoc lines (line_if_any kept) (refused ∷ [])

-- after a line behind which nothing is kept, a sink took the text of all lines
pub spans_written : (name : GName) (started sink : SinkView) (kept refused : Option Line) (lines : List Line) → IsSpanning sink kept refused
    → (join_on nothing_joined lines).kept ≡ None → spans_of name sink kept refused ≡ after_lines (new_journal name started) lines → sink ≡ after_bytes started (text_of (in_spans lines))
spans_written name started sink kept (Some refused) lines is last seen = absurd (false≢true (sym (ap (λ (j : JournalView). j.failed) seen)))
spans_written name started sink kept None lines is last seen =
    λ i. record { told = told started.told sink.told is.at is.joined before shown i; faults = ap (λ (j : JournalView). j.faults) seen i }
  where
    before_of : Option Target → Option Taken
    before_of None = None
    before_of (Some target) = target.before

    before : option_map (before_lines Two) sink.told ≡ started.told
    before = ap (λ (j : JournalView). before_of j.target) seen

    shown : option_map (λ (ls : List Line). counted_lines (ls ++ (line_if_any kept ++ []))) (ending sink.told) ≡ option_map (λ (ls : List Line). ls ++ lines) (new_journal name started).lines
    shown = ap (λ (j : JournalView). j.lines) seen

    told : (old new : Option Taken) → IsAt Two new [] → AreJoined (ending new) kept None → option_map (before_lines Two) new ≡ old
        → option_map (λ (ls : List Line). counted_lines (ls ++ (line_if_any kept ++ []))) (ending new) ≡ option_map (λ (ls : List Line). ls ++ lines) (option_map (λ (taken : Taken). let none : List Line = [] in none) old)
        → new ≡ option_map (λ (taken : Taken). with_bytes taken (text_of (in_spans lines))) old
    told None None at joined b s = refl
    told None (Some taken) at joined b s = cc
    told (Some first) None at joined b s = cc
    told (Some first) (Some taken) at joined b s =
        let begins : before_lines Two taken ≡ first = cc b in
        let are : counted_lines (lines_at_end Two taken ++ (line_if_any kept ++ [])) ≡ lines = cc s in
        let join : join_on nothing_joined (counted_lines (lines_at_end Two taken ++ (line_if_any kept ++ []))) ≡ record { done = lines_at_end Two taken; kept = kept } = cc joined in
        let none : kept ≡ None = sym (ap (λ (j : Joined). j.kept) join) ∙ ap (λ ls. (join_on nothing_joined ls).kept) are ∙ last in
        let all : in_spans lines ≡ lines_at_end Two taken =
        told_joined (lines_at_end Two taken) lines kept None join are ∙ ap (λ o. lines_at_end Two taken ++ (line_if_any o ++ [])) none ∙ append-nil (lines_at_end Two taken) in
        ap Some
        (taken_parts Two taken first [] at begins
        ∙ ap (λ t. with_bytes first (text_of (lines_at_end Two taken) ++ t)) (take-nil (length (part_at_end Two taken)))
        ∙ ap (with_bytes first) (append-nil (text_of (lines_at_end Two taken)) ∙ ap text_of (sym all)))

-- what was read of a line that didn't end has no line feed
part_open : (format : Format) (read : Reading) (bytes : List ℕ) → list_any (λ b. b == 10) read.part ≡ false → list_any (λ b. b == 10) (read_on format read bytes).part ≡ false
part_open format read [] none = none
part_open format read (byte ∷ bytes) none = part_open format (read_byte format read byte) bytes (by_byte (byte == 10) refl)
  where
    or_none : (a b : Bool) → a ≡ false → b ≡ false → (a || (b || false)) ≡ false
    or_none false false p q = refl
    or_none true b p q = cc
    or_none false true p q = cc

    of_line : (answer : Result Line LineFault) → list_any (λ b. b == 10) (and_line read answer).part ≡ false
    of_line (Ok line) = refl
    of_line (Err fault) = refl

    by_byte : (b : Bool) → (byte == 10) ≡ b
        → list_any (λ b. b == 10) (if b then and_line read (line_in format read.part) else record { before = read.before; lines = read.lines; part = read.part ++ byte ∷ [] }).part ≡ false
    by_byte true is = of_line (line_in format read.part)
    by_byte false is = list_any-append (λ b. b == 10) read.part (byte ∷ []) ∙ or_none (list_any (λ b. b == 10) read.part) (byte == 10) none is

-- so it is shorter than the text of lines that it is a front of
part_short : (format : Format) (taken : Taken) (line : Line) (lines : List Line) → part_at_end format taken ≡ take (length (part_at_end format taken)) (text_of (line ∷ lines))
    → length (part_at_end format taken) < length (text_of (line ∷ lines))
part_short format taken line lines front = elim (cases_lt (length (part_at_end format taken)) (length (text_of (line ∷ lines)))) [
  | inl short ↦ short
  | inr long ↦
      let all : part_at_end format taken ≡ text_of (line ∷ lines) = front ∙ take_all (length (part_at_end format taken)) (text_of (line ∷ lines)) long in
      absurd (false≢true (sym (part_open format (record { before = []; lines = []; part = [] }) taken.bytes refl) ∙ ap (list_any (λ b. b == 10)) all ∙ ended_has (line_text line) (text_of lines)))
]
  where
    or_true : (a : Bool) → (a || true) ≡ true
    or_true true = refl
    or_true false = refl

    ended_has : (xs ys : List ℕ) → list_any (λ b. b == 10) ((xs ++ 10 ∷ []) ++ ys) ≡ true
    ended_has [] ys = refl
    ended_has (x ∷ xs) ys = ap (λ b. (x == 10) || b) (ended_has xs ys) ∙ or_true (x == 10)

-- the text of lines isn't empty
text_some : (lines : List Line) → 0 < length lines → 0 < length (text_of lines)
text_some [] some = absurd (omega (arith, some))
text_some (line ∷ lines) some = omega (arith, length-append (with_line_end (line_text line)) (text_of lines), length-append (line_text line) (10 ∷ []))

-- a kept span and a refused line are some lines
waits_short : (kept : Option Line) (refused : Line) (taken : Taken) → part_at_end Two taken ≡ take (length (part_at_end Two taken)) (text_of (line_if_any kept ++ refused ∷ []))
    → length (part_at_end Two taken) < length (text_of (line_if_any kept ++ refused ∷ []))
waits_short None refused taken front = part_short Two taken refused [] front
waits_short (Some span) refused taken front = part_short Two taken span (refused ∷ []) front

-- and where a line was refused, a front of the text of a front of them, which ends before the last of its lines does
pub spans_cut_off : (name : GName) (started sink : SinkView) (kept refused : Option Line) (lines : List Line) → IsSpanning sink kept refused
    → IsCutOff (new_journal name started) (spans_of name sink kept refused) lines
    → (count : ℕ) × (count ≤ length lines) × IsCutShort started sink (text_of (in_spans (take count lines)))
spans_cut_off name started sink kept None lines is cut = absurd (false≢true cut.failed)
spans_cut_off name started sink kept (Some refused) lines is cut =
    let front = told started.told sink.told is.at is.joined before cut.handed in (
      cut.count,
      cut.within,
      record { n = front.0; less = front.1; front = front.2; counted = cut.counted },
    )
  where
    before_of : Option Target → Option Taken
    before_of None = None
    before_of (Some target) = target.before

    before : option_map (before_lines Two) sink.told ≡ started.told
    before = ap before_of cut.target

    told : (old new : Option Taken) → IsAt Two new (line_if_any kept ++ refused ∷ []) → AreJoined (ending new) kept (Some refused) → option_map (before_lines Two) new ≡ old
        → option_map (λ (ls : List Line). counted_lines (ls ++ (line_if_any kept ++ refused ∷ []))) (ending new)
        ≡ option_map (λ (ls : List Line). ls ++ take cut.count lines) (option_map (λ (taken : Taken). let none : List Line = [] in none) old)
        → (n : ℕ) × (n < length (text_of (in_spans (take cut.count lines)))) × (new ≡ option_map (λ (taken : Taken). with_bytes taken (take n (text_of (in_spans (take cut.count lines))))) old)
    told None None at joined b s =
        let some : 0 < length (take cut.count lines) = omega (arith, cut.some, cut.within, length-take cut.count lines) in
        (0, text_some (in_spans (take cut.count lines)) (spans_some (take cut.count lines) some), refl)
    told None (Some taken) at joined b s = cc
    told (Some first) None at joined b s = cc
    told (Some first) (Some taken) at joined b s =
        let begins : before_lines Two taken ≡ first = cc b in
        let are : counted_lines (lines_at_end Two taken ++ (line_if_any kept ++ refused ∷ [])) ≡ take cut.count lines = cc s in
        let join : join_on nothing_joined (counted_lines (lines_at_end Two taken ++ (line_if_any kept ++ refused ∷ []))) ≡ apart (record { done = lines_at_end Two taken; kept = kept }) refused = cc joined in
        let all : in_spans (take cut.count lines) ≡ lines_at_end Two taken ++ (line_if_any kept ++ refused ∷ []) = told_joined (lines_at_end Two taken) (take cut.count lines) kept (Some refused) join are in
        let text = text_of (lines_at_end Two taken) in
        let part = length (part_at_end Two taken) in
        let whole : text_of (in_spans (take cut.count lines)) ≡ text ++ text_of (line_if_any kept ++ refused ∷ []) = ap text_of all ∙ text_of-append (lines_at_end Two taken) (line_if_any kept ++ refused ∷ []) in
        let short : part < length (text_of (line_if_any kept ++ refused ∷ [])) = waits_short kept refused taken (cc (at.0)) in (
          length text + part,
          omega (arith, short, ap length whole, length-append text (text_of (line_if_any kept ++ refused ∷ []))),
          ap Some
              (taken_parts Two taken first (line_if_any kept ++ refused ∷ []) at begins
              ∙ ap (with_bytes first) (take_all_front text (text_of (line_if_any kept ++ refused ∷ [])) part
              ∙ ap (take (length text + part)) (sym (text_of-append (lines_at_end Two taken) (line_if_any kept ++ refused ∷ [])) ∙ ap text_of (sym all)))),
        )

-- ---- format 1

-- a sink took the text of all lines
pub lines_written : (name : GName) (started sink : SinkView) (refused : Option Line) (lines : List Line) → IsAt One sink.told (refused_lines refused)
    → journal_of name sink refused ≡ after_lines (new_journal name started) lines → sink ≡ after_bytes started (text_of lines)
lines_written name started sink (Some refused) lines at seen = absurd (false≢true (sym (ap (λ (j : JournalView). j.failed) seen)))
lines_written name started sink None lines at seen =
    λ i. record { told = told started.told sink.told at before shown i; faults = ap (λ (j : JournalView). j.faults) seen i }
  where
    before_of : Option Target → Option Taken
    before_of None = None
    before_of (Some target) = target.before

    before : option_map (before_lines One) sink.told ≡ started.told
    before = ap (λ (j : JournalView). before_of j.target) seen

    shown : option_map (λ (taken : Taken). lines_at_end One taken ++ []) sink.told ≡ option_map (λ (ls : List Line). ls ++ lines) (new_journal name started).lines
    shown = ap (λ (j : JournalView). j.lines) seen

    told : (old new : Option Taken) → IsAt One new [] → option_map (before_lines One) new ≡ old
        → option_map (λ (taken : Taken). lines_at_end One taken ++ []) new ≡ option_map (λ (ls : List Line). ls ++ lines) (option_map (λ (taken : Taken). let none : List Line = [] in none) old)
        → new ≡ option_map (λ (taken : Taken). with_bytes taken (text_of lines)) old
    told None None at b s = refl
    told None (Some taken) at b s = cc
    told (Some first) None at b s = cc
    told (Some first) (Some taken) at b s =
        let begins : before_lines One taken ≡ first = cc b in
        let are : lines_at_end One taken ++ [] ≡ lines = cc s in
        ap Some
        (taken_parts One taken first [] at begins
        ∙ ap (λ t. with_bytes first (text_of (lines_at_end One taken) ++ t)) (take-nil (length (part_at_end One taken)))
        ∙ ap (with_bytes first) (append-nil (text_of (lines_at_end One taken)) ∙ ap text_of (sym (append-nil (lines_at_end One taken)) ∙ are)))

-- and where a line was refused, a front of the text of a front of them
pub lines_cut_off : (name : GName) (started sink : SinkView) (refused : Option Line) (lines : List Line) → IsAt One sink.told (refused_lines refused)
    → IsCutOff (new_journal name started) (journal_of name sink refused) lines
    → (count : ℕ) × (count ≤ length lines) × IsFaultAfterFront started sink (text_of (take count lines))
lines_cut_off name started sink None lines at cut = absurd (false≢true cut.failed)
lines_cut_off name started sink (Some refused) lines at cut =
    let front = told started.told sink.told at before cut.handed in (
      cut.count,
      cut.within,
      record { front = (front.0, front.1); counted = cut.counted },
    )
  where
    before_of : Option Target → Option Taken
    before_of None = None
    before_of (Some target) = target.before

    before : option_map (before_lines One) sink.told ≡ started.told
    before = ap before_of cut.target

    told : (old new : Option Taken) → IsAt One new (refused_lines (Some refused)) → option_map (before_lines One) new ≡ old
        → option_map (λ (taken : Taken). lines_at_end One taken ++ refused_lines (Some refused)) new
        ≡ option_map (λ (ls : List Line). ls ++ take cut.count lines) (option_map (λ (taken : Taken). let none : List Line = [] in none) old)
        → (n : ℕ) × (new ≡ option_map (λ (taken : Taken). with_bytes taken (take n (text_of (take cut.count lines)))) old)
    told None None at b s = (0, refl)
    told None (Some taken) at b s = cc
    told (Some first) None at b s = cc
    told (Some first) (Some taken) at b s =
        let begins : before_lines One taken ≡ first = cc b in
        let are : lines_at_end One taken ++ refused_lines (Some refused) ≡ take cut.count lines = cc s in
        let text = text_of (lines_at_end One taken) in
        let part = length (part_at_end One taken) in (
          length text + part,
          ap Some
              (taken_parts One taken first (refused_lines (Some refused)) at begins
              ∙ ap (with_bytes first) (take_all_front text (text_of (refused_lines (Some refused))) part
              ∙ ap (take (length text + part)) (sym (text_of-append (lines_at_end One taken) (refused_lines (Some refused))) ∙ ap text_of are))),
        )
