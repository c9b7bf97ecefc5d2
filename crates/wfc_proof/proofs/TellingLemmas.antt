-- What a journal tells after more lines were put into its sink.
use Rattle.std.proofs.Common.{◌≡◌, ℕ, ◌^◌, ◌<◌, ◌≤◌, Bool, true, false, cond, nat_eq, List, [], ◌∷◌, ◌++◌, length, take, drop, Option, None, Some, is_some, Result, Ok, Err, refl, sym, ap, ◌∙◌, subst, arith, append_assoc, append-nil, length-append, OnOk}
use Rattle.std.specs.Option.{option_map}
use Rattle.std.specs.Borrow.{GName}
use Rattle.std.proofs.lemmas.Bool.{eqb-true, false≢true}
use Rattle.std.proofs.Math.Seq.{take-nil}
use Rattle.std.proofs.lemmas.List.{take-append-le, length-take-le}
use Rattle.std.proofs.lemmas.List.Elements.{All-head, All-tail, All-take}
use Rattle.wfc_outside.specs.Sink.{Puts, Taken, SinkView, with_bytes, after_bytes}
use Rattle.wfc_outside.specs.declared.SinkFault.{SinkFault}
use Rattle.wfc_proof.specs.Heads.{with_line_end, format_text, numbers_text, shape_text, head_text, head_2_text, IsShape}
use Rattle.wfc_proof.specs.Journal.{JournalView, Target, counted_as, after_line, IsRefused}
use Rattle.wfc_proof.specs.ProofText.{IsOfFormat, AreOfFormat}
use Rattle.wfc_proof.specs.Telling.{text_of, Reading, line_in, and_line, read_byte, read_on, read_text, lines_at_end, before_lines, part_at_end, refused_lines, journal_of, IsAt, IsBare, new_journal, IsCutAt}
use Rattle.wfc_proof.specs.Text.{line_text}
use Rattle.wfc_proof.specs.declared.Line.{Line}
use Rattle.wfc_proof.specs.declared.heads.Format.{Format}
use Rattle.wfc_proof.specs.declared.heads.Format.TheVariants.{One, Two}
use Rattle.wfc_proof.specs.declared.heads.Shape.{Shape}
use Rattle.wfc_proof.specs.declared.text.LineFault.{LineFault}
use Rattle.wfc_proof.specs.declared.text.LineFault.TheVariants.{BadLine}
use Rattle.wfc_proof.proofs.HeadLemmas.{no_numbers, no_shape}
use Rattle.wfc_proof.proofs.ProofTextLemmas.{IsFeedless, line_feedless, format_feedless, numbers_feedless, shape_feedless}
use Rattle.wfc_proof.proofs.LineLemmas.{is-line_of, line_of-is, is-line_2_of, line_2_of-is}

-- ---- lines and their texts

-- a line of the format is read from its text
pub is-line_in : (format : Format) (line : Line) → IsOfFormat format line → line_in format (line_text line) ≡ Ok line
is-line_in One line keeps = is-line_of (line_text line) line refl keeps
is-line_in Two line keeps = is-line_2_of (line_text line) line refl keeps

-- and what is read as a line is its text
pub line_in-is : (format : Format) (text : List ℕ) (line : Line) → line_in format text ≡ Ok line → (text ≡ line_text line) × IsOfFormat format line
line_in-is One text line is = line_of-is text line is
line_in-is Two text line is = line_2_of-is text line is

-- the text of lines behind others
pub text_of-append : (xs ys : List Line) → text_of (xs ++ ys) ≡ text_of xs ++ text_of ys
text_of-append [] ys = refl
text_of-append (x ∷ xs) ys = ap (λ t. with_line_end (line_text x) ++ t) (text_of-append xs ys) ∙ sym (append_assoc (with_line_end (line_text x)) (text_of xs) (text_of ys))

-- the text of a line alone
pub text_of-one : (line : Line) → text_of (line ∷ []) ≡ with_line_end (line_text line)
text_of-one line = append-nil (with_line_end (line_text line))

-- lines of the format, before others and behind them
pub of_format-append : (format : Format) (xs ys : List Line) → AreOfFormat format xs → AreOfFormat format ys → AreOfFormat format (xs ++ ys)
of_format-append format [] ys first rest = rest
of_format-append format (x ∷ xs) ys first rest = (first.0, of_format-append format xs ys first.1 rest)

pub of_format-parts : (format : Format) (xs : List Line) (y : Line) (ys : List Line) → AreOfFormat format (xs ++ (y ∷ ys)) → AreOfFormat format xs × IsOfFormat format y
of_format-parts format [] y ys all = (record {}, all.0)
of_format-parts format (x ∷ xs) y ys all = let rest = of_format-parts format xs y ys all.1 in ((all.0, rest.0), rest.1)

-- ---- what is read

abbrev reading : List ℕ → List Line → List ℕ → Reading
reading before lines part = record { before = before; lines = lines; part = part }

-- more bytes behind others
pub read_more : (format : Format) (read : Reading) (xs ys : List ℕ) → read_on format read (xs ++ ys) ≡ read_on format (read_on format read xs) ys
read_more format read [] ys = refl
read_more format read (x ∷ xs) ys = read_more format (read_byte format read x) xs ys

-- bytes without a line feed end no line
pub read_plain : (format : Format) (before : List ℕ) (lines : List Line) (part text : List ℕ) → IsFeedless text
    → read_on format (reading before lines part) text ≡ reading before lines (part ++ text)
read_plain format before lines part [] plain = ap (reading before lines) (sym (append-nil part))
read_plain format before lines part (b ∷ text) plain =
    let next : Reading = reading before lines (part ++ b ∷ []) in
    let step : read_byte format (reading before lines part) b ≡ next =
    ap (λ t. cond t (and_line (reading before lines part) (line_in format part)) next) (All-head (λ x. nat_eq x 10 ≡ false) b text plain) in
    ap (λ r. read_on format r text) step
    ∙ read_plain format before lines (part ++ b ∷ []) text (All-tail (λ x. nat_eq x 10 ≡ false) b text plain)
    ∙ ap (reading before lines) (append_assoc part (b ∷ []) text)

-- a text without a line feed and then one is a line that ended
pub read_ended : (format : Format) (before : List ℕ) (lines : List Line) (part text : List ℕ) → IsFeedless text
    → read_on format (reading before lines part) (with_line_end text) ≡ and_line (reading before lines (part ++ text)) (line_in format (part ++ text))
read_ended format before lines part text plain =
    read_more format (reading before lines part) text (10 ∷ []) ∙ ap (λ r. read_on format r (10 ∷ [])) (read_plain format before lines part text plain)

-- the text of lines is that many more lines
pub read_lines : (format : Format) (before : List ℕ) (told lines : List Line) → AreOfFormat format lines
    → read_on format (reading before told []) (text_of lines) ≡ reading before (told ++ lines) []
read_lines format before told [] keep = ap (λ ls. reading before ls []) (sym (append-nil told))
read_lines format before told (line ∷ lines) keep =
    read_more format (reading before told []) (with_line_end (line_text line)) (text_of lines)
    ∙ ap (λ r. read_on format r (text_of lines))
    (read_ended format before told [] (line_text line) (line_feedless format line keep.0) ∙ ap (and_line (reading before told (line_text line))) (is-line_in format line keep.0))
    ∙ read_lines format before (told ++ line ∷ []) lines keep.1
    ∙ ap (λ ls. reading before ls []) (append_assoc told (line ∷ []) lines)

-- a front of the text of a line that isn't the whole ends no line
read_front : (format : Format) (before : List ℕ) (told : List Line) (line : Line) (n : ℕ) → IsOfFormat format line → n < length (with_line_end (line_text line))
    → read_on format (reading before told []) (take n (with_line_end (line_text line))) ≡ reading before told (take n (line_text line))
read_front format before told line n keeps less =
    let text = line_text line in
    let within : n ≤ length text = omega (arith, less, length-append text (10 ∷ [])) in
    ap (read_on format (reading before told [])) (take-append-le n text (10 ∷ []) within)
    ∙ read_plain format before told [] (take n text) (All-take (λ b. nat_eq b 10 ≡ false) n text (line_feedless format line keeps))

-- the bytes of what was read
abbrev all_of : Reading → List ℕ
all_of read = read.before ++ (text_of read.lines ++ read.part)

-- no byte is lost where a line ends
all_line : (format : Format) (read : Reading) (o : Result Line LineFault) → line_in format read.part ≡ o → all_of (and_line read o) ≡ all_of read ++ 10 ∷ []
all_line format read (Ok line) is =
    ap (λ t. read.before ++ t)
    (append-nil (text_of (read.lines ++ line ∷ [])) ∙ text_of-append read.lines (line ∷ []) ∙ ap (λ t. text_of read.lines ++ t) (text_of-one line)
    ∙ ap (λ t. text_of read.lines ++ (t ++ 10 ∷ [])) (sym (line_in-is format read.part line is).0) ∙ sym (append_assoc (text_of read.lines) read.part (10 ∷ [])))
    ∙ sym (append_assoc read.before (text_of read.lines ++ read.part) (10 ∷ []))
all_line format read (Err fault) is =
    append-nil (read.before ++ (text_of read.lines ++ with_line_end read.part))
    ∙ ap (λ t. read.before ++ t) (sym (append_assoc (text_of read.lines) read.part (10 ∷ [])))
    ∙ sym (append_assoc read.before (text_of read.lines ++ read.part) (10 ∷ []))

all_byte : (format : Format) (read : Reading) (byte : ℕ) (b : Bool) → nat_eq byte 10 ≡ b → all_of (read_byte format read byte) ≡ all_of read ++ byte ∷ []
all_byte format read byte true is =
    ap (λ t. all_of (cond t (and_line read (line_in format read.part)) (reading read.before read.lines (read.part ++ byte ∷ [])))) is
    ∙ all_line format read (line_in format read.part) refl ∙ ap (λ n. all_of read ++ n ∷ []) (sym (eqb-true byte 10 is))
all_byte format read byte false is =
    ap (λ t. all_of (cond t (and_line read (line_in format read.part)) (reading read.before read.lines (read.part ++ byte ∷ [])))) is
    ∙ ap (λ t. read.before ++ t) (sym (append_assoc (text_of read.lines) read.part (byte ∷ [])))
    ∙ sym (append_assoc read.before (text_of read.lines ++ read.part) (byte ∷ []))

all_on : (format : Format) (read : Reading) (bytes : List ℕ) → all_of (read_on format read bytes) ≡ all_of read ++ bytes
all_on format read [] = sym (append-nil (all_of read))
all_on format read (byte ∷ bytes) =
    all_on format (read_byte format read byte) bytes ∙ ap (λ t. t ++ bytes) (all_byte format read byte (nat_eq byte 10) refl) ∙ append_assoc (all_of read) (byte ∷ []) bytes

-- no byte of a text is lost where it is read
pub nothing_lost : (format : Format) (bytes : List ℕ) → let read = read_text format bytes in read.before ++ (text_of read.lines ++ read.part) ≡ bytes
nothing_lost format bytes = all_on format (reading [] [] []) bytes

-- what is read as lines is of the format
formed_line : (format : Format) (read : Reading) (o : Result Line LineFault) → line_in format read.part ≡ o → AreOfFormat format read.lines → AreOfFormat format (and_line read o).lines
formed_line format read (Ok line) is keep = of_format-append format read.lines (line ∷ []) keep ((line_in-is format read.part line is).1, record {})
formed_line format read (Err fault) is keep = record {}

formed_byte : (format : Format) (read : Reading) (byte : ℕ) (b : Bool) → nat_eq byte 10 ≡ b → AreOfFormat format read.lines → AreOfFormat format (read_byte format read byte).lines
formed_byte format read byte true is keep =
    subst (λ t. AreOfFormat format (cond t (and_line read (line_in format read.part)) (reading read.before read.lines (read.part ++ byte ∷ []))).lines) (sym is)
    (formed_line format read (line_in format read.part) refl keep)
formed_byte format read byte false is keep =
    subst (λ t. AreOfFormat format (cond t (and_line read (line_in format read.part)) (reading read.before read.lines (read.part ++ byte ∷ []))).lines) (sym is) keep

formed_on : (format : Format) (read : Reading) (bytes : List ℕ) → AreOfFormat format read.lines → AreOfFormat format (read_on format read bytes).lines
formed_on format read [] keep = keep
formed_on format read (byte ∷ bytes) keep = formed_on format (read_byte format read byte) bytes (formed_byte format read byte (nat_eq byte 10) refl keep)

pub read_formed : (format : Format) (bytes : List ℕ) → AreOfFormat format (read_text format bytes).lines
read_formed format bytes = formed_on format (reading [] [] []) bytes (record {})

-- ---- what a sink took

-- where nothing waits, nothing stands behind the lines
opened : (format : Format) (taken : Taken) → IsAt format (Some taken) []
    → (read_text format taken.bytes ≡ reading (read_text format taken.bytes).before (lines_at_end format taken) []) × (taken.finished ≡ false)
opened format taken at =
    let part : part_at_end format taken ≡ take (length (part_at_end format taken)) [] = cc (at.0) in
    let none : part_at_end format taken ≡ [] = part ∙ take-nil (length (part_at_end format taken)) in
    let unfinished : taken.finished ≡ false = cc (at.1) in
    (ap (reading (read_text format taken.bytes).before (lines_at_end format taken)) none, unfinished)

-- the bytes that a sink took are those before and those that it took now
took : (taken : Taken) (bytes : List ℕ) → (with_bytes taken bytes).bytes ≡ taken.bytes ++ bytes
took taken [] = sym (append-nil taken.bytes)
took taken (b ∷ bytes) = refl

-- and they aren't finished
unfinished : (taken : Taken) (bytes : List ℕ) → taken.finished ≡ false → (with_bytes taken bytes).finished ≡ false
unfinished taken [] is = is
unfinished taken (b ∷ bytes) is = refl

-- what is read after more bytes, where nothing stands behind the lines
read_behind : (format : Format) (taken : Taken) (bytes : List ℕ) → IsAt format (Some taken) []
    → read_text format (with_bytes taken bytes).bytes ≡ read_on format (reading (read_text format taken.bytes).before (lines_at_end format taken) []) bytes
read_behind format taken bytes at =
    ap (read_text format) (took taken bytes) ∙ read_more format (reading [] [] []) taken.bytes bytes ∙ ap (λ r. read_on format r bytes) (opened format taken at).0

-- what is said of a sink that took more, where these lines came to those at the end, and these wait
pub record Grown (format : Format) (old new : Option Taken) (more waiting : List Line) : Type 0 where
  pub at : IsAt format new waiting
  pub lines : option_map (lines_at_end format) new ≡ option_map (λ (taken : Taken). lines_at_end format taken ++ more) old
  pub before : option_map (before_lines format) new ≡ option_map (before_lines format) old

-- one that took lines
pub put_told : (format : Format) (old : Option Taken) (lines : List Line) → IsAt format old [] → AreOfFormat format lines
    → Grown format old (option_map (λ (taken : Taken). with_bytes taken (text_of lines)) old) lines []
put_told format None lines at keep = record { at = (refl, refl); lines = refl; before = refl }
put_told format (Some taken) lines at keep =
    let before = (read_text format taken.bytes).before in
    let told = lines_at_end format taken in
    let new = with_bytes taken (text_of lines) in
    let read : read_text format new.bytes ≡ reading before (told ++ lines) [] = read_behind format taken (text_of lines) at ∙ read_lines format before told lines keep in
    let ends : new.finished ≡ false = unfinished taken (text_of lines) (opened format taken at).1 in
    let same : taken.finished ≡ false = (opened format taken at).1 in
    record {
      at = (
        ap (λ (r : Reading). Some r.part) read ∙ ap (λ (r : Reading). Some (take (length r.part) [])) (sym read),
        ap (λ (b : Bool). Some b) ends,
      );
      lines = ap (λ (r : Reading). Some r.lines) read;
      before = λ i. let t : Taken = record { bytes = (read i).before; finished = (ends ∙ sym same) i } in Some t;
    }

-- one that took lines, and then a front of one more that isn't the whole
pub cut_told : (format : Format) (old : Option Taken) (done : List Line) (first : Line) (rest : List Line) (n : ℕ) → IsAt format old [] → AreOfFormat format done
    → IsOfFormat format first → n < length (with_line_end (line_text first))
    → Grown format old (option_map (λ (taken : Taken). with_bytes taken (take n (with_line_end (line_text first)))) (option_map (λ (taken : Taken). with_bytes taken (text_of done)) old)) done (first ∷ rest)
cut_told format None done first rest n at keep keeps less = record { at = (refl, refl); lines = refl; before = refl }
cut_told format (Some taken) done first rest n at keep keeps less =
    let before = (read_text format taken.bytes).before in
    let told = lines_at_end format taken in
    let middle = with_bytes taken (text_of done) in
    let text = line_text first in
    let new = with_bytes middle (take n (with_line_end text)) in
    let put = put_told format (Some taken) done at keep in
    let halfway : read_text format middle.bytes ≡ reading before (told ++ done) [] = read_behind format taken (text_of done) at ∙ read_lines format before told done keep in
    let read : read_text format new.bytes ≡ reading before (told ++ done) (take n text) =
    read_behind format middle (take n (with_line_end text)) put.at
    ∙ ap (λ (r : Reading). read_on format (reading r.before r.lines []) (take n (with_line_end text))) halfway
    ∙ read_front format before (told ++ done) first n keeps less in
    let same : taken.finished ≡ false = (opened format taken at).1 in
    let ends : new.finished ≡ false = unfinished middle (take n (with_line_end text)) (unfinished taken (text_of done) same) in
    record {
      at = (
        ap (λ (r : Reading). Some r.part) read ∙ ap Some (front text (text_of rest) n (omega (arith, less, length-append text (10 ∷ []))))
            ∙ ap (λ (r : Reading). Some (take (length r.part) (text_of (first ∷ rest)))) (sym read),
        ap (λ (b : Bool). Some b) ends,
      );
      lines = ap (λ (r : Reading). Some r.lines) read;
      before = λ i. let t : Taken = record { bytes = (read i).before; finished = (ends ∙ sym same) i } in Some t;
    }
  where
    front : (text more : List ℕ) (n : ℕ) → n ≤ length text → take n text ≡ take (length (take n text)) ((text ++ 10 ∷ []) ++ more)
    front text more n within =
        let whole : n ≤ length (text ++ 10 ∷ []) = omega (arith, within, length-append text (10 ∷ [])) in
        sym (take-append-le n text (10 ∷ []) within) ∙ sym (take-append-le n (text ++ 10 ∷ []) more whole)
        ∙ ap (λ k. take k ((text ++ 10 ∷ []) ++ more)) (sym (length-take-le n text within))

-- ---- heads

-- a line that ended leaves no part
line_part : (read : Reading) (o : Result Line LineFault) → (and_line read o).part ≡ []
line_part read (Ok line) = refl
line_part read (Err fault) = refl

-- after a text whose last line is none of the format, no line is told, and no part of one
none_behind : (format : Format) (read : Reading) (last : List ℕ) → IsFeedless last → line_in format last ≡ Err BadLine → read.part ≡ []
    → ((read_on format read (with_line_end last)).lines ≡ []) × ((read_on format read (with_line_end last)).part ≡ [])
none_behind format read last plain none part =
    let e : read_on format read (with_line_end last) ≡ and_line (reading read.before read.lines last) (Err BadLine) =
    ap (λ p. read_on format (reading read.before read.lines p) (with_line_end last)) part
    ∙ read_ended format read.before read.lines [] last plain ∙ ap (and_line (reading read.before read.lines last)) none in
    (ap (λ (r : Reading). r.lines) e, ap (λ (r : Reading). r.part) e)

-- after a first line there is no part
no_part : (format : Format) (read : Reading) (text : List ℕ) → IsFeedless text → (read_on format read (with_line_end text)).part ≡ []
no_part format read text plain =
    ap (λ (r : Reading). r.part) (read_ended format read.before read.lines read.part text plain)
    ∙ line_part (reading read.before read.lines (read.part ++ text)) (line_in format (read.part ++ text))

-- so after both heads
pub bare_1 : (read : Reading) (c v : ℕ) → c < 2 ^ 32 → v < 2 ^ 32 → ((read_on One read (head_text c v)).lines ≡ []) × ((read_on One read (head_text c v)).part ≡ [])
bare_1 read c v cells values =
    let first : Reading = read_on One read (with_line_end (format_text One)) in
    let more = read_more One read (with_line_end (format_text One)) (with_line_end (numbers_text c v)) in
    let none = none_behind One first (numbers_text c v) (numbers_feedless c v cells values) (no_numbers c v cells values) (no_part One read (format_text One) (format_feedless One)) in
    (ap (λ (r : Reading). r.lines) more ∙ none.0, ap (λ (r : Reading). r.part) more ∙ none.1)

pub bare_2 : (read : Reading) (shape : Shape) (c v : ℕ) → IsShape shape → c < 2 ^ 32 → v < 2 ^ 32
    → ((read_on Two read (head_2_text shape c v)).lines ≡ []) × ((read_on Two read (head_2_text shape c v)).part ≡ [])
bare_2 read shape c v is cells values =
    let first : Reading = read_on Two read (with_line_end (format_text Two)) in
    let second : Reading = read_on Two first (with_line_end (numbers_text c v)) in
    let more = read_more Two read (with_line_end (format_text Two)) (with_line_end (numbers_text c v) ++ with_line_end (shape_text shape)) ∙ read_more Two first (with_line_end (numbers_text c v)) (with_line_end (shape_text shape)) in
    let none = none_behind Two second (shape_text shape) (shape_feedless shape is) (no_shape shape is) (no_part Two first (numbers_text c v) (numbers_feedless c v cells values)) in
    (ap (λ (r : Reading). r.lines) more ∙ none.0, ap (λ (r : Reading). r.part) more ∙ none.1)

-- a sink that took a text after which nothing is told is bare
bare_told : (format : Format) (b : ℕ) (bytes : List ℕ) (old : Option Taken)
    → ((read : Reading) → ((read_on format read (b ∷ bytes)).lines ≡ []) × ((read_on format read (b ∷ bytes)).part ≡ []))
    → IsBare format (option_map (λ (taken : Taken). with_bytes taken (b ∷ bytes)) old)
bare_told format b bytes None none = (refl, (refl, refl))
bare_told format b bytes (Some taken) none =
    let read : Reading = read_text format taken.bytes in
    let more : read_text format (taken.bytes ++ b ∷ bytes) ≡ read_on format read (b ∷ bytes) = read_more format (reading [] [] []) taken.bytes (b ∷ bytes) in
    let part : part_at_end format (with_bytes taken (b ∷ bytes)) ≡ [] = ap (λ (r : Reading). r.part) more ∙ (none read).1 in
    (ap (λ (r : Reading). Some r.lines) more ∙ ap Some (none read).0, (ap Some (part ∙ sym (ap (λ p. take (length p) []) part)), refl))

-- the head of format 1
head_bare : (old new : SinkView) (c v : ℕ) → c < 2 ^ 32 → v < 2 ^ 32 → new ≡ after_bytes old (head_text c v) → IsBare One new.told
head_bare old new c v cells values put =
    subst (λ (s : SinkView). IsBare One s.told) (sym put) (bare_told One 119 (drop 1 (head_text c v)) old.told (λ read. bare_1 read c v cells values))

-- and of format 2
head_2_bare : (old new : SinkView) (shape : Shape) (c v : ℕ) → IsShape shape → c < 2 ^ 32 → v < 2 ^ 32 → new ≡ after_bytes old (head_2_text shape c v) → IsBare Two new.told
head_2_bare old new shape c v is cells values put =
    subst (λ (s : SinkView). IsBare Two s.told) (sym put) (bare_told Two 119 (drop 1 (head_2_text shape c v)) old.told (λ read. bare_2 read shape c v is cells values))

-- a head that was put leaves its sink bare
pub header_bare : (old new : SinkView) (text : List ℕ) (c v : ℕ) (result : Result (Unit {0}) SinkFault) → c < 2 ^ 32 → v < 2 ^ 32 → text ≡ head_text c v → Puts old new text result
    → OnOk result (IsBare One new.told)
header_bare old new text c v (Ok unit) cells values is put = head_bare old new c v cells values (put ∙ ap (after_bytes old) is)
header_bare old new text c v (Err fault) cells values is put = tt

pub header_2_bare : (old new : SinkView) (text : List ℕ) (shape : Shape) (c v : ℕ) (result : Result (Unit {0}) SinkFault) → IsShape shape → c < 2 ^ 32 → v < 2 ^ 32 → text ≡ head_2_text shape c v → Puts old new text result
    → OnOk result (IsBare Two new.told)
header_2_bare old new text shape c v (Ok unit) is cells values same put = head_2_bare old new shape c v is cells values (put ∙ ap (after_bytes old) same)
header_2_bare old new text shape c v (Err fault) is cells values same put = tt

-- what a bare sink took stands before the lines
pub bare_before : (format : Format) (told : Option Taken) → IsBare format told → option_map (before_lines format) told ≡ told
bare_before format None bare = refl
bare_before format (Some taken) bare =
    let lines : lines_at_end format taken ≡ [] = cc (bare.0) in
    let part : part_at_end format taken ≡ [] = ap (λ (r : Reading). r.part) (opened format taken bare.1).0 in
    let before : (read_text format taken.bytes).before ≡ taken.bytes =
    sym (append-nil (read_text format taken.bytes).before)
    ∙ ap (λ t. (read_text format taken.bytes).before ++ t) (sym (ap (λ ls. text_of ls ++ part_at_end format taken) lines ∙ part))
    ∙ nothing_lost format taken.bytes in
    ap (λ b. let t : Taken = record { bytes = b; finished = taken.finished } in Some t) before

-- ---- a journal of format 1

-- with no more lines there are those before
no_more : (format : Format) (o : Option Taken) → option_map (λ (taken : Taken). lines_at_end format taken ++ []) o ≡ option_map (lines_at_end format) o
no_more format None = refl
no_more format (Some taken) = ap Some (append-nil (lines_at_end format taken))

-- lines behind lines that were told
told_more : (f : Taken → List Line) (lines : List Line) (o : Option Taken) → option_map (λ (taken : Taken). f taken ++ lines) o ≡ option_map (λ (xs : List Line). xs ++ lines) (option_map (λ (taken : Taken). f taken ++ []) o)
told_more f lines None = refl
told_more f lines (Some taken) = ap (λ xs. Some (xs ++ lines)) (sym (append-nil (f taken)))

told_all : (lines more : List Line) (old new : Option Taken) → option_map (lines_at_end One) new ≡ option_map (λ (taken : Taken). lines_at_end One taken ++ lines) old
    → option_map (λ (taken : Taken). lines_at_end One taken ++ more) new ≡ option_map (λ (xs : List Line). xs ++ (lines ++ more)) (option_map (λ (taken : Taken). lines_at_end One taken ++ []) old)
told_all lines more old new same =
    split new ∙ ap (option_map (λ (xs : List Line). xs ++ more)) same ∙ both old
  where
    split : (o : Option Taken) → option_map (λ (taken : Taken). lines_at_end One taken ++ more) o ≡ option_map (λ (xs : List Line). xs ++ more) (option_map (lines_at_end One) o)
    split None = refl
    split (Some taken) = refl

    both : (o : Option Taken) → option_map (λ (xs : List Line). xs ++ more) (option_map (λ (taken : Taken). lines_at_end One taken ++ lines) o)
        ≡ option_map (λ (xs : List Line). xs ++ (lines ++ more)) (option_map (λ (taken : Taken). lines_at_end One taken ++ []) o)
    both None = refl
    both (Some taken) = ap Some (append_assoc (lines_at_end One taken) lines more ∙ ap (λ xs. xs ++ (lines ++ more)) (sym (append-nil (lines_at_end One taken))))

-- a journal over a bare sink has begun
pub bare_begun : (name : GName) (sink : SinkView) → IsBare One sink.told → journal_of name sink None ≡ new_journal name sink
bare_begun name sink bare =
    let lines : option_map (λ (taken : Taken). lines_at_end One taken ++ []) sink.told ≡ option_map (λ (taken : Taken). let none : List Line = [] in none) sink.told = no_more One sink.told ∙ bare.0 in
    let before : option_map (before_lines One) sink.told ≡ sink.told = bare_before One sink.told bare in
    λ i. let target : Target = record { name = name; before = before i } in let j : JournalView = record { lines = lines i; failed = false; faults = sink.faults; target = Some target } in j

-- a line that was put is told
pub line_told : (name : GName) (old new : SinkView) (refused : Option Line) (line : Line) → IsAt One old.told (refused_lines refused) → is_some refused ≡ false
    → AreOfFormat One (counted_as line) → new ≡ after_bytes old (text_of (counted_as line))
    → IsAt One new.told (refused_lines refused) × (journal_of name new refused ≡ after_line (journal_of name old refused) line)
line_told name old new (Some refused) line at going keep put = absurd (false≢true (sym going))
line_told name old new None line at going keep put =
    let grown = subst (λ (s : SinkView). Grown One old.told s.told (counted_as line) []) (sym put) (put_told One old.told (counted_as line) at keep) in
    let lines = no_more One new.told ∙ grown.lines ∙ told_more (lines_at_end One) (counted_as line) old.told in
    let faults : new.faults ≡ old.faults = ap (λ (s : SinkView). s.faults) put in (
      grown.at,
      λ i. let target : Target = record { name = name; before = grown.before i } in
          let j : JournalView = record { lines = lines i; failed = false; faults = faults i; target = Some target } in j,
    )

-- a line that was cut off is refused
pub line_refused : (name : GName) (old new : SinkView) (refused : Option Line) (line left : Line) → IsAt One old.told (refused_lines refused) → is_some refused ≡ false
    → AreOfFormat One (counted_as line) → IsCutAt old new line left
    → IsAt One new.told (counted_as left) × IsRefused (journal_of name old refused) (journal_of name new (Some left)) line
line_refused name old new (Some refused) line left at going keep cut = absurd (false≢true (sym going))
line_refused name old new None line left at going keep cut =
    let parts = of_format-parts One cut.done cut.first cut.rest (subst (AreOfFormat One) cut.split keep) in
    let grown = subst (λ (o : Option Taken). Grown One old.told o cut.done (cut.first ∷ cut.rest)) (sym cut.cut.front)
    (cut_told One old.told cut.done cut.first cut.rest cut.cut.n at parts.0 parts.1 cut.cut.less) in
    let whole : cut.done ++ counted_as left ≡ counted_as line = ap (λ ls. cut.done ++ ls) cut.left ∙ sym cut.split in (
      subst (IsAt One new.told) (sym cut.left) grown.at,
      record {
        handed = told_all cut.done (counted_as left) old.told new.told grown.lines
            ∙ ap (λ ls. option_map (λ (xs : List Line). xs ++ ls) (journal_of name old None).lines) whole;
        failed = refl;
        counted = cut.cut.counted;
        target = ap (λ b. let t : Target = record { name = name; before = b } in Some t) grown.before;
      },
    )
