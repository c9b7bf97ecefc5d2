-- What is put of a text that is brought to format 2.
use Rattle.std.proofs.Common.{◌≡◌, ℕ, zero, suc, ◌+◌, ◌-◌, ◌^◌, ◌<◌, ◌≤◌, Bool, true, false, cond, nat_eq, List, [], ◌∷◌, ◌++◌, length, map, take, drop, get_or, Option, None, Some, Result, Ok, Err, refl, sym, ap, ◌∙◌, subst, arith, append_assoc, append-nil, length-append, length-take}
use Rattle.std.specs.Prelude.{nat_le, ◌&&◌}
use Rattle.std.specs.List.{range_with_len, list_all}
use Rattle.std.proofs.lemmas.Bool.{and_parts, and_from, false≢true, false_from_ne_true}
use Rattle.std.proofs.lemmas.Bool.Decides.{nat_tests}
use Rattle.std.proofs.lemmas.Grind.{common_steps, flat_map-append}
use Rattle.std.proofs.lemmas.List.{get_or_default, get_or-take}
use Rattle.std.proofs.lemmas.List.Elements.{All-head, All-tail}
use Rattle.wfc_outside.proofs.CallerLemmas.{puts_none, puts_on, fault_on, fault_out}
use Rattle.wfc_outside.specs.Sink.{SinkView, after_bytes, IsFaultAfterFront, Puts}
use Rattle.wfc_outside.specs.declared.SinkFault.{SinkFault}
use Rattle.wfc_problem.specs.Network.{Network}
use Rattle.wfc_problem.specs.Network.{values as values_of}
use Rattle.wfc_proof.specs.Heads.{with_line_end, format_of, format_text, head_2_text, numbers_text, shape_text, IsShape}
use Rattle.wfc_proof.specs.Journal.{IsWhole, counted_as}
use Rattle.wfc_proof.specs.Lines.{nodes_of, has_nodes, nodes_of_lines}
use Rattle.wfc_proof.specs.Proof.{Proof}
use Rattle.wfc_proof.specs.Proof.Node.{removes}
use Rattle.wfc_proof.specs.ProofText.{IsOfFormat, AreOfFormat, IsTextOf, head_in}
use Rattle.wfc_proof.specs.Spans.{counted_lines, as_span, one_span, join_with, growing_part, settled_part, line_if_any, Joined, nothing_joined, grown_or_apart, join_line, join_on, all_joined, in_spans, is_span, is_kept, IsCutApart, PutsApart}
use Rattle.wfc_proof.specs.Telling.{Reading, line_in, read_on, text_of, PutsOrCuts}
use Rattle.wfc_proof.specs.Text.{line_text}
use Rattle.wfc_proof.specs.Upgrade.{line_at, behind_line, named_format, format_at, behind_head, lines_in, upgraded_text, spans_left, TakesLine, TakesFront}
use Rattle.wfc_proof.specs.declared.Line.{Line}
use Rattle.wfc_proof.specs.declared.Line.TheVariants.{Remove, Span, Try, Empty, End, Found, Out}
use Rattle.wfc_proof.specs.declared.heads.Format.{Format}
use Rattle.wfc_proof.specs.declared.heads.Format.TheVariants.{One, Two}
use Rattle.wfc_proof.specs.declared.heads.Shape.{Shape}
use Rattle.wfc_proof.specs.declared.text.LineFault.{LineFault}
use Rattle.wfc_proof.proofs.HeadLemmas.{is-format_of}
use Rattle.wfc_proof.proofs.ProofTextLemmas.{IsFeedless, line_feedless, format_feedless, numbers_feedless, shape_feedless}
use Rattle.wfc_proof.proofs.SpanLemmas.{join_on-append, line_at_once, settled_growing, grown_counts, growing_kept}
use Rattle.wfc_proof.proofs.TellingLemmas.{is-line_in, line_in-is, text_of-append, text_of-one, of_format-append, read_more, read_lines, read_formed, bare_1, bare_2}

-- ---- lines of a text

-- a line without a line feed, and what stands behind it
pub line_at-is : (line rest : List ℕ) → IsFeedless line → line_at (line ++ 10 ∷ rest) ≡ line
line_at-is [] rest plain = refl
line_at-is (b ∷ line) rest plain =
    ap (λ t. cond t [] (b ∷ line_at (line ++ 10 ∷ rest))) (All-head (λ x. nat_eq x 10 ≡ false) b line plain)
    ∙ ap (λ l. b ∷ l) (line_at-is line rest (All-tail (λ x. nat_eq x 10 ≡ false) b line plain))

pub behind_line-is : (line rest : List ℕ) → IsFeedless line → behind_line (line ++ 10 ∷ rest) ≡ rest
behind_line-is [] rest plain = refl
behind_line-is (b ∷ line) rest plain =
    ap (λ t. cond t (line ++ 10 ∷ rest) (behind_line (line ++ 10 ∷ rest))) (All-head (λ x. nat_eq x 10 ≡ false) b line plain)
    ∙ behind_line-is line rest (All-tail (λ x. nat_eq x 10 ≡ false) b line plain)

-- a text without a line feed
pub line_at-all : (line : List ℕ) → IsFeedless line → line_at line ≡ line
line_at-all [] plain = refl
line_at-all (b ∷ line) plain =
    ap (λ t. cond t [] (b ∷ line_at line)) (All-head (λ x. nat_eq x 10 ≡ false) b line plain)
    ∙ ap (λ l. b ∷ l) (line_at-all line (All-tail (λ x. nat_eq x 10 ≡ false) b line plain))

pub behind_line-all : (line : List ℕ) → IsFeedless line → behind_line line ≡ []
behind_line-all [] plain = refl
behind_line-all (b ∷ line) plain =
    ap (λ t. cond t line (behind_line line)) (All-head (λ x. nat_eq x 10 ≡ false) b line plain) ∙ behind_line-all line (All-tail (λ x. nat_eq x 10 ≡ false) b line plain)

-- no line feed stands at the first places of the text
abbrev pub NoFeed : List ℕ → ℕ → Type 0
NoFeed text count = (k : ℕ) → 0 ≤ k → k < count → nat_eq (get_or text k 0) 10 ≡ true → ⊥

pub plain_front : (text : List ℕ) (count : ℕ) → count ≤ length text → NoFeed text count → IsFeedless (take count text)
plain_front text count inside none k d below =
    let here : k < count = omega (arith, length-take count text) in
    rw (get_or-take count text k d here) (rw (get_or_default text k d 0 (omega arith)) (false_from_ne_true _ (none k (omega arith) here)))

pub plain_all : (text : List ℕ) → NoFeed text (length text) → IsFeedless text
plain_all text none k d inside = rw (get_or_default text k d 0 inside) (false_from_ne_true _ (none k (omega arith) inside))

-- the text is cut at its first line feed
pub cut_at : (text : List ℕ) (at : ℕ) → at < length text → get_or text at 0 ≡ 10 → text ≡ take at text ++ 10 ∷ drop (at + 1) text
cut_at text at inside feed = grind (arith, common_steps)

-- the first line of a text whose lines are all read
pub record LineRead (format : Format) (rest : List ℕ) : Type 0 where
  pub line : Line
  pub more : List Line
  pub are : lines_in format rest ≡ line ∷ more
  pub formed : IsOfFormat format line
  pub text : line_at rest ≡ line_text line
  pub read : lines_in format (behind_line rest) ≡ more
  pub whole : text_of (lines_in format (behind_line rest)) ≡ behind_line rest
  pub shorter : length (behind_line rest) < length rest

pub line_read : (format : Format) (rest : List ℕ) → text_of (lines_in format rest) ≡ rest → 0 < length rest → LineRead format rest
line_read format rest whole some = by (lines_in format rest) refl (read_formed format rest)
  where
    by : (lines : List Line) → lines_in format rest ≡ lines → AreOfFormat format lines → LineRead format rest
    by [] are formed = let none : [] ≡ rest = ap text_of (sym are) ∙ whole in absurd (omega (arith, ap length none))
    by (line ∷ more) are formed =
        let text : rest ≡ line_text line ++ 10 ∷ text_of more = sym whole ∙ ap text_of are ∙ append_assoc (line_text line) (10 ∷ []) (text_of more) in
        let plain = line_feedless format line formed.0 in
        let behind : behind_line rest ≡ text_of more = ap behind_line text ∙ behind_line-is (line_text line) (text_of more) plain in
        let read : lines_in format (behind_line rest) ≡ more = ap (lines_in format) behind ∙ ap (λ (r : Reading). r.lines) (read_lines format [] [] more formed.1) in
        record {
          line = line;
          more = more;
          are = are;
          formed = formed.0;
          text = ap line_at text ∙ line_at-is (line_text line) (text_of more) plain;
          read = read;
          whole = ap text_of read ∙ sym behind;
          shorter = omega (arith, ap length behind, ap length text, length-append (line_text line) (10 ∷ text_of more));
        }

-- a line of either format is whole
pub format_whole : (format : Format) (line : Line) → IsOfFormat format line → IsWhole line
format_whole One (Remove c v d) keeps = record {}
format_whole One (Span c first last d) keeps = absurd keeps
format_whole One (Try c v) keeps = record {}
format_whole One (Empty c) keeps = record {}
format_whole One End keeps = record {}
format_whole One Found keeps = record {}
format_whole One Out keeps = record {}
format_whole Two (Remove c v d) keeps = record {}
format_whole Two (Span c first last d) keeps = keeps.1
format_whole Two (Try c v) keeps = record {}
format_whole Two (Empty c) keeps = record {}
format_whole Two End keeps = record {}
format_whole Two Found keeps = record {}
format_whole Two Out keeps = record {}

-- ---- what is left to be put

-- lines that are done stay in front
behind_done : (before : List Line) (joined : Joined) (lines : List Line)
    → all_joined (join_on (record { done = before ++ joined.done; kept = joined.kept }) lines) ≡ before ++ all_joined (join_on joined lines)
behind_done before joined [] = append_assoc before joined.done (line_if_any joined.kept)
behind_done before joined (line ∷ lines) =
    ap (λ j. all_joined (join_on j lines)) (step (join_with joined.kept (as_span line))) ∙ behind_done before (join_line joined line) lines
  where
    step : (o : Option Line) → grown_or_apart (record { done = before ++ joined.done; kept = joined.kept }) (as_span line) o
        ≡ (let j : Joined = record { done = before ++ (grown_or_apart joined (as_span line) o).done; kept = (grown_or_apart joined (as_span line) o).kept } in j)
    step None = ap (λ ls. let j : Joined = record { done = ls; kept = growing_part (as_span line) } in j) (append_assoc before joined.done (line_if_any joined.kept ++ settled_part (as_span line)))
    step (Some span) = refl

-- a line is joined to what is kept or comes behind it
first_taken : (kept : Option Line) (line told : Line) (more : List Line) → IsWhole told → as_span told ≡ told → counted_as told ≡ counted_as line
    → spans_left kept (line ∷ more) ≡ all_joined (join_on (grown_or_apart (record { done = []; kept = kept }) told (join_with kept told)) (counted_lines more))
first_taken kept line told more whole is counts =
    let here : Joined = record { done = []; kept = kept } in
    ap all_joined
    (join_on-append here (counted_as line) (counted_lines more)
    ∙ ap (λ j. join_on j (counted_lines more)) (ap (join_on here) (sym counts) ∙ line_at_once here told whole is ∙ ap (λ l. grown_or_apart here l (join_with kept l)) is))

apart_taken : (kept : Option Line) (line told : Line) (more : List Line) → IsWhole told → as_span told ≡ told → counted_as told ≡ counted_as line → join_with kept told ≡ None
    → spans_left kept (line ∷ more) ≡ (line_if_any kept ++ settled_part told) ++ spans_left (growing_part told) more
apart_taken kept line told more whole is counts none =
    let put = line_if_any kept ++ settled_part told in
    first_taken kept line told more whole is counts
    ∙ ap (λ o. all_joined (join_on (grown_or_apart (record { done = []; kept = kept }) told o) (counted_lines more))) none
    ∙ ap (λ ls. let j : Joined = record { done = ls; kept = growing_part told } in all_joined (join_on j (counted_lines more))) (sym (append-nil put))
    ∙ behind_done put (record { done = []; kept = growing_part told }) (counted_lines more)

pub takes_grown : (sink : SinkView) (kept : Option Line) (line told span : Line) → IsWhole told → as_span told ≡ told → counted_as told ≡ counted_as line → is_kept kept ≡ true
    → join_with kept told ≡ Some span → TakesLine sink sink kept line (Some span)
takes_grown sink None line told span whole is counts spans join = cc
takes_grown sink (Some kept) line told span whole is counts spans join = record {
  put = [];
  bytes = puts_none sink;
  on = λ more. first_taken (Some kept) line told more whole is counts
      ∙ ap (λ o. all_joined (join_on (grown_or_apart (record { done = []; kept = Some kept }) told o) (counted_lines more))) join;
  spans = (grown_counts kept told span spans whole join).1;
}

pub takes_apart : (old new : SinkView) (kept after : Option Line) (line told : Line) → IsWhole told → as_span told ≡ told → counted_as told ≡ counted_as line → join_with kept told ≡ None
    → PutsApart old new kept told after → TakesLine old new kept line after
takes_apart old new kept after line told whole is counts none puts = record {
  put = line_if_any kept ++ settled_part told;
  bytes = puts.put;
  on = λ more. apart_taken kept line told more whole is counts none ∙ ap (λ o. (line_if_any kept ++ settled_part told) ++ spans_left o more) (sym puts.kept);
  spans = subst (λ (o : Option Line). is_kept o ≡ true) (sym puts.kept) (growing_kept told whole);
}

pub takes_front : (old new : SinkView) (kept after : Option Line) (line told : Line) → IsWhole told → as_span told ≡ told → counted_as told ≡ counted_as line → join_with kept told ≡ None
    → IsCutApart old new kept told after → TakesFront old new kept line
takes_front old new kept after line told whole is counts none cut =
    let front : IsFaultAfterFront (after_bytes old (text_of cut.done)) new (with_line_end (line_text cut.first)) = record { front = (cut.cut.n, cut.cut.front); counted = cut.cut.counted } in
    let text : text_of cut.done ++ (with_line_end (line_text cut.first) ++ text_of cut.most) ≡ text_of (line_if_any kept ++ settled_part told) =
    sym (text_of-append cut.done (cut.first ∷ cut.most)) ∙ ap text_of (sym cut.firm) in
    record {
      put = line_if_any kept ++ settled_part told;
      fault = subst (IsFaultAfterFront old new) text (fault_on old (after_bytes old (text_of cut.done)) new (text_of cut.done) (with_line_end (line_text cut.first) ++ text_of cut.most) refl
          (fault_out (after_bytes old (text_of cut.done)) new (with_line_end (line_text cut.first)) (text_of cut.most) front));
      on = λ more. (spans_left (growing_part told) more, apart_taken kept line told more whole is counts none);
    }

-- what becomes of what is left becomes of it with the line that was taken
pub takes_on : {T E : Type 0} (old mid new : SinkView) (kept after : Option Line) (line : Line) (more : List Line) (result : Result T E) → TakesLine old mid kept line after
    → Puts mid new (text_of (spans_left after more)) result → Puts old new (text_of (spans_left kept (line ∷ more))) result
takes_on {T} {E} old mid new kept after line more result takes puts =
    subst (λ t. Puts {T = T} {E = E} old new t result) (sym (text_of-append takes.put (spans_left after more)) ∙ ap text_of (sym (takes.on more)))
    (puts_on old mid new (text_of takes.put) (text_of (spans_left after more)) result takes.bytes puts)

-- a fault within the line is one within what is left
pub front_out : (old new : SinkView) (kept : Option Line) (line : Line) (more : List Line) → TakesFront old new kept line
    → IsFaultAfterFront old new (text_of (spans_left kept (line ∷ more)))
front_out old new kept line more takes =
    let on = takes.on more in
    subst (IsFaultAfterFront old new) (sym (text_of-append takes.put on.0) ∙ ap text_of (sym on.1)) (fault_out old new (text_of takes.put) (text_of on.0) takes.fault)

-- what is cut off is a front of it
pub puts_or_cuts : {T E : Type 0} (old new : SinkView) (bytes : List ℕ) (result : Result T E) → PutsOrCuts old new bytes result → Puts old new bytes result
puts_or_cuts old new bytes (Ok done) put = put
puts_or_cuts old new bytes (Err fault) cut = record { front = (cut.n, cut.front); counted = cut.counted }

-- where no byte is left, what is kept is left to be put
pub none_left : (format : Format) (rest : List ℕ) (kept : Option Line) → length rest ≡ 0 → spans_left kept (lines_in format rest) ≡ line_if_any kept
none_left format [] kept none = refl
none_left format (b ∷ rest) kept none = absurd (omega arith)

-- what the first line of what is left is read as
pub read_is : (format : Format) (rest : List ℕ) (read : LineRead format rest) (text : List ℕ) (line : Line) → text ≡ line_at rest → line_in format text ≡ Ok line → read.line ≡ line
read_is format rest read text line at is =
    let both : Ok read.line ≡ (let r : Result Line LineFault = Ok line in r) = sym (is-line_in format read.line read.formed) ∙ ap (line_in format) (sym read.text ∙ sym at) ∙ is in cc

pub never_fails : (format : Format) (rest : List ℕ) (read : LineRead format rest) (text : List ℕ) (fault : LineFault) → text ≡ line_at rest → line_in format text ≡ Err fault → ⊥
never_fails format rest read text fault at is =
    let both : Ok read.line ≡ (let r : Result Line LineFault = Err fault in r) = sym (is-line_in format read.line read.formed) ∙ ap (line_in format) (sym read.text ∙ sym at) ∙ is in cc

-- ---- the text of a proof

-- what is known of the text of a proof: its format, and its lines behind the head
pub record TextRead (format : Format) (bytes : List ℕ) (lines : List Line) : Type 0 where
  pub at : format_at bytes ≡ format
  pub read : lines_in format bytes ≡ lines
  pub behind : behind_head format bytes ≡ text_of lines

format_named : (format : Format) (bytes rest : List ℕ) → bytes ≡ with_line_end (format_text format) ++ rest → (format_at bytes ≡ format) × (behind_line bytes ≡ rest)
format_named format bytes rest text =
    let cut : bytes ≡ format_text format ++ 10 ∷ rest = text ∙ append_assoc (format_text format) (10 ∷ []) rest in (
      ap (λ l. named_format (format_of l)) (ap line_at cut ∙ line_at-is (format_text format) rest (format_feedless format)) ∙ ap named_format (is-format_of (format_text format) format refl),
      ap behind_line cut ∙ behind_line-is (format_text format) rest (format_feedless format),
    )

line_passed : (line rest bytes : List ℕ) → IsFeedless line → bytes ≡ with_line_end line ++ rest → behind_line bytes ≡ rest
line_passed line rest bytes plain text = ap behind_line (text ∙ append_assoc line (10 ∷ []) rest) ∙ behind_line-is line rest plain

-- lines are read behind a head
read_after : (format : Format) (head : List ℕ) (lines : List Line) → AreOfFormat format lines
    → ((read_on format (record { before = []; lines = []; part = [] }) head).lines ≡ []) × ((read_on format (record { before = []; lines = []; part = [] }) head).part ≡ [])
    → lines_in format (head ++ text_of lines) ≡ lines
read_after format head lines formed none =
    let start : Reading = record { before = []; lines = []; part = [] } in
    let bare : read_on format start head ≡ record { before = (read_on format start head).before; lines = []; part = [] } =
    λ i. let r : Reading = record { before = (read_on format start head).before; lines = none.0 i; part = none.1 i } in r in
    ap (λ (r : Reading). r.lines)
    (read_more format start head (text_of lines) ∙ ap (λ r. read_on format r (text_of lines)) bare ∙ read_lines format (read_on format start head).before [] lines formed)

pub text_read : (P : Network) (shape : Shape) (format : Format) (bytes : List ℕ) (lines : List Line) → IsShape shape → P.cells < 2 ^ 32 → values_of P < 2 ^ 32 → AreOfFormat format lines
    → bytes ≡ head_in format P shape ++ text_of lines → TextRead format bytes lines
text_read P shape One bytes lines is cells values formed text =
    let numbers = with_line_end (numbers_text P.cells (values_of P)) in
    let first = format_named One bytes (numbers ++ text_of lines) (text ∙ append_assoc (with_line_end (format_text One)) numbers (text_of lines)) in
    record {
      at = first.0;
      read = ap (lines_in One) text ∙ read_after One (head_in One P shape) lines formed (bare_1 (record { before = []; lines = []; part = [] }) P.cells (values_of P) cells values);
      behind = ap behind_line first.1 ∙ line_passed (numbers_text P.cells (values_of P)) (text_of lines) (numbers ++ text_of lines) (numbers_feedless P.cells (values_of P) cells values) refl;
    }
text_read P shape Two bytes lines is cells values formed text =
    let numbers = with_line_end (numbers_text P.cells (values_of P)) in
    let third = with_line_end (shape_text shape) in
    let first = format_named Two bytes (numbers ++ (third ++ text_of lines))
    (text ∙ append_assoc (with_line_end (format_text Two)) (numbers ++ third) (text_of lines) ∙ ap (λ t. with_line_end (format_text Two) ++ t) (append_assoc numbers third (text_of lines))) in
    record {
      at = first.0;
      read = ap (lines_in Two) text ∙ read_after Two (head_in Two P shape) lines formed (bare_2 (record { before = []; lines = []; part = [] }) shape P.cells (values_of P) is cells values);
      behind = ap (λ t. behind_line (behind_line t)) first.1
          ∙ ap behind_line (line_passed (numbers_text P.cells (values_of P)) (third ++ text_of lines) (numbers ++ (third ++ text_of lines)) (numbers_feedless P.cells (values_of P) cells values) refl)
          ∙ line_passed (shape_text shape) (text_of lines) (third ++ text_of lines) (shape_feedless shape is) refl;
    }

-- what stands behind the head is the text of its lines, which are those of the whole text
pub record IsLed (bytes : List ℕ) : Type 0 where
  pub lines : text_of (lines_in (format_at bytes) (behind_head (format_at bytes) bytes)) ≡ behind_head (format_at bytes) bytes
  pub read : lines_in (format_at bytes) (behind_head (format_at bytes) bytes) ≡ lines_in (format_at bytes) bytes

read_led : (format : Format) (bytes : List ℕ) (lines : List Line) → AreOfFormat format lines → TextRead format bytes lines → IsLed bytes
read_led format bytes lines formed read =
    let again : lines_in format (behind_head format bytes) ≡ lines = ap (lines_in format) read.behind ∙ ap (λ (r : Reading). r.lines) (read_lines format [] [] lines formed) in
    let back : format ≡ format_at bytes = sym read.at in
    record {
      lines = subst (λ f. text_of (lines_in f (behind_head f bytes)) ≡ behind_head f bytes) back (ap text_of again ∙ sym read.behind);
      read = subst (λ f. lines_in f (behind_head f bytes) ≡ lines_in f bytes) back (again ∙ sym read.read);
    }

-- the lines of the text of a proof, with its end
whole_lines : (P : Network) (shape : Shape) (format : Format) (proof : Proof) (bytes : List ℕ) → IsTextOf P shape format proof bytes → (lines : List Line) × AreOfFormat format lines
    × (bytes ≡ head_in format P shape ++ text_of lines)
whole_lines P shape format proof bytes is = (is.lines ++ End ∷ [], of_format-append format is.lines (End ∷ []) is.formed (end format, record {}), is.text)
  where
    end : (f : Format) → IsOfFormat f End
    end One = record {}
    end Two = record {}

pub proof_led : (P : Network) (shape : Shape) (format : Format) (proof : Proof) (bytes : List ℕ) → IsShape shape → P.cells < 2 ^ 32 → values_of P < 2 ^ 32 → IsTextOf P shape format proof bytes → IsLed bytes
proof_led P shape format proof bytes is cells values text =
    let whole = whole_lines P shape format proof bytes text in
    read_led format bytes whole.0 whole.1 (text_read P shape format bytes whole.0 is cells values whole.1 whole.2)

-- a line that was taken, of what is left
pub record IsTakenOn (format : Format) (behind : List ℕ) (after : Option Line) (first mid : SinkView) (all : List Line) : Type 0 where
  pub whole : text_of (lines_in format behind) ≡ behind
  pub kept : is_kept after ≡ true
  pub puts : (new : SinkView) (result : Result (Unit {0}) SinkFault) → Puts mid new (text_of (spans_left after (lines_in format behind))) result → Puts first new (text_of (spans_left None all)) result

pub taken_on : (format : Format) (rest text behind : List ℕ) (kept after : Option Line) (line : Line) (first old mid : SinkView) (all : List Line) → text_of (lines_in format rest) ≡ rest → 0 < length rest
    → text ≡ line_at rest → line_in format text ≡ Ok line → behind ≡ behind_line rest → TakesLine old mid kept line after
    → ((new : SinkView) (result : Result (Unit {0}) SinkFault) → Puts old new (text_of (spans_left kept (lines_in format rest))) result → Puts first new (text_of (spans_left None all)) result)
    → IsTakenOn format behind after first mid all
taken_on format rest text behind kept after line first old mid all whole some at is behind_is takes puts =
    let read = line_read format rest whole some in
    let lines : lines_in format rest ≡ line ∷ read.more = read.are ∙ ap (λ l. l ∷ read.more) (read_is format rest read text line at is) in
    let more : lines_in format behind ≡ read.more = ap (lines_in format) behind_is ∙ read.read in
    record {
      whole = subst (λ b. text_of (lines_in format b) ≡ b) (sym behind_is) read.whole;
      kept = takes.spans;
      puts = λ new result here. puts new result
          (subst (λ ls. Puts old new (text_of (spans_left kept ls)) result) (sym lines)
          (takes_on old mid new kept after line read.more result takes (subst (λ ls. Puts mid new (text_of (spans_left after ls)) result) more here)));
    }

-- a fault while a line was taken
pub taken_front : (format : Format) (rest text : List ℕ) (kept : Option Line) (line : Line) (first old new : SinkView) (all : List Line) (fault : SinkFault) → text_of (lines_in format rest) ≡ rest → 0 < length rest
    → text ≡ line_at rest → line_in format text ≡ Ok line → TakesFront old new kept line
    → ((new : SinkView) (result : Result (Unit {0}) SinkFault) → Puts old new (text_of (spans_left kept (lines_in format rest))) result → Puts first new (text_of (spans_left None all)) result)
    → IsFaultAfterFront first new (text_of (spans_left None all))
taken_front format rest text kept line first old new all fault whole some at is takes puts =
    let read = line_read format rest whole some in
    let lines : lines_in format rest ≡ line ∷ read.more = read.are ∙ ap (λ l. l ∷ read.more) (read_is format rest read text line at is) in
    puts new (Err fault) (subst (λ ls. IsFaultAfterFront old new (text_of (spans_left kept ls))) (sym lines) (front_out old new kept line read.more takes))

-- a line that was read is whole
pub read_whole : (format : Format) (text : List ℕ) (line : Line) → line_in format text ≡ Ok line → IsWhole line
read_whole format text line is = format_whole format line (line_in-is format text line is).1

-- ---- the proof is the same

-- what a line counts as counts as itself, and stands for its nodes
pub counted_spells : (line : Line) → (counted_lines (counted_as line) ≡ counted_as line) × (nodes_of_lines (counted_as line) ≡ nodes_of line)
counted_spells (Remove c v d) = (refl, refl)
counted_spells (Span c first last d) = (again (range_with_len first (last + 1 - first)), nodes_are (range_with_len first (last + 1 - first)))
  where
    again : (vs : List ℕ) → counted_lines (map (λ v. Remove c v d) vs) ≡ map (λ v. Remove c v d) vs
    again [] = refl
    again (v ∷ vs) = ap (λ ls. Remove c v d ∷ ls) (again vs)

    nodes_are : (vs : List ℕ) → nodes_of_lines (map (λ v. Remove c v d) vs) ≡ map (λ v. removes c v d) vs
    nodes_are [] = refl
    nodes_are (v ∷ vs) = ap (λ ns. removes c v d ∷ ns) (nodes_are vs)
counted_spells (Try c v) = (refl, refl)
counted_spells (Empty c) = (refl, refl)
counted_spells End = (refl, refl)
counted_spells Found = (refl, refl)
counted_spells Out = (refl, refl)

counted_again : (lines : List Line) → counted_lines (counted_lines lines) ≡ counted_lines lines
counted_again [] = refl
counted_again (line ∷ lines) = flat_map-append counted_as (counted_as line) (counted_lines lines) ∙ (λ i. (counted_spells line).0 i ++ counted_again lines i)

pub spelled-append : (xs ys : List Line) → nodes_of_lines (xs ++ ys) ≡ nodes_of_lines xs ++ nodes_of_lines ys
spelled-append [] ys = refl
spelled-append (x ∷ xs) ys = ap (λ ns. nodes_of x ++ ns) (spelled-append xs ys) ∙ sym (append_assoc (nodes_of x) (nodes_of_lines xs) (nodes_of_lines ys))

spelled_counted : (lines : List Line) → nodes_of_lines (counted_lines lines) ≡ nodes_of_lines lines
spelled_counted [] = refl
spelled_counted (line ∷ lines) = spelled-append (counted_as line) (counted_lines lines) ∙ (λ i. (counted_spells line).1 i ++ spelled_counted lines i)

-- a line that counts as itself: its span is of format 2, and stands for nodes
pub record IsPlain (line : Line) : Type 0 where
  pub alone : counted_as line ≡ line ∷ []
  pub whole : IsWhole (as_span line)
  pub same : as_span (as_span line) ≡ as_span line
  pub counts : counted_as (as_span line) ≡ counted_as line
  pub format : IsOfFormat Two (as_span line)
  pub has : has_nodes (as_span line) ≡ true

abbrev ArePlain : List Line → Type 0
ArePlain [] = Unit {0}
ArePlain (line ∷ lines) = IsPlain line × ArePlain lines

plain-append : (xs ys : List Line) → ArePlain xs → ArePlain ys → ArePlain (xs ++ ys)
plain-append [] ys first rest = rest
plain-append (x ∷ xs) ys first rest = (first.0, plain-append xs ys first.1 rest)

one_value : (v : ℕ) → nat_le v v ≡ true
one_value v = grind (arith, nat_tests)

plain_removal : (c v d : ℕ) → c < 2 ^ 32 → v < 2 ^ 16 → d < 2 ^ 8 → IsPlain (Remove c v d)
plain_removal c v d cell value dir = record {
  alone = refl;
  whole = omega arith;
  same = refl;
  counts = let one : v + 1 - v ≡ 1 = omega arith in ap (λ (k : ℕ). map (λ w. Remove c w d) (range_with_len v k)) one;
  format = (cell, omega arith, value, dir);
  has = one_value v;
}

plain_removals : (c d v n : ℕ) → c < 2 ^ 32 → d < 2 ^ 8 → v + n ≤ 2 ^ 16 → ArePlain (map (λ w. Remove c w d) (range_with_len v n))
plain_removals c d v zero cell dir low = record {}
plain_removals c d v (suc n) cell dir low = (plain_removal c v d cell (omega arith) dir, plain_removals c d (v + 1) n cell dir (omega arith))

-- what a line of either format that stands for nodes counts as is plain
plain_line : (format : Format) (line : Line) → IsOfFormat format line → has_nodes line ≡ true → ArePlain (counted_as line)
plain_line One (Remove c v d) keeps has = (plain_removal c v d keeps.0 keeps.1 keeps.2, record {})
plain_line One (Span c first last d) keeps has = absurd keeps
plain_line Two (Remove c v d) keeps has = absurd keeps
plain_line Two (Span c first last d) keeps has = plain_removals c d first (last + 1 - first) keeps.0 keeps.3 (omega (arith, keeps.1, keeps.2))
plain_line One (Try c v) keeps has = (record { alone = refl; whole = record {}; same = refl; counts = refl; format = keeps; has = refl }, record {})
plain_line Two (Try c v) keeps has = (record { alone = refl; whole = record {}; same = refl; counts = refl; format = keeps; has = refl }, record {})
plain_line One (Empty c) keeps has = (record { alone = refl; whole = record {}; same = refl; counts = refl; format = keeps; has = refl }, record {})
plain_line Two (Empty c) keeps has = (record { alone = refl; whole = record {}; same = refl; counts = refl; format = keeps; has = refl }, record {})
plain_line format End keeps has = absurd (false≢true has)
plain_line format Found keeps has = absurd (false≢true has)
plain_line format Out keeps has = absurd (false≢true has)

plain_lines : (format : Format) (lines : List Line) → AreOfFormat format lines → list_all has_nodes lines ≡ true → ArePlain (counted_lines lines)
plain_lines format [] keep has = record {}
plain_lines format (line ∷ lines) keep has =
    let parts = and_parts (has_nodes line) (list_all has_nodes lines) has in
    plain-append (counted_as line) (counted_lines lines) (plain_line format line keep.0 parts.0) (plain_lines format lines keep.1 parts.1)

-- what holds of lines that are joined: they are of format 2 and stand for nodes, and the last may be a span
record IsSpelled (joined : Joined) (told : List Line) : Type 0 where
  pub formed : AreOfFormat Two joined.done × AreOfFormat Two (line_if_any joined.kept)
  pub has : (list_all has_nodes joined.done ≡ true) × (list_all has_nodes (line_if_any joined.kept) ≡ true)
  pub kept : is_kept joined.kept ≡ true
  pub counts : counted_lines (all_joined joined) ≡ told

all_has : (xs ys : List Line) → list_all has_nodes xs ≡ true → list_all has_nodes ys ≡ true → list_all has_nodes (xs ++ ys) ≡ true
all_has [] ys first rest = rest
all_has (x ∷ xs) ys first rest = let parts = and_parts (has_nodes x) (list_all has_nodes xs) first in and_from _ _ parts.0 (all_has xs ys parts.1 rest)

-- a line is settled or grows
parted : (line : Line) → IsOfFormat Two line → has_nodes line ≡ true
    → (AreOfFormat Two (settled_part line) × AreOfFormat Two (line_if_any (growing_part line))) × ((list_all has_nodes (settled_part line) ≡ true) × (list_all has_nodes (line_if_any (growing_part line)) ≡ true))
parted (Remove c v d) keeps has = absurd keeps
parted (Span c first last d) keeps has = ((record {}, (keeps, record {})), (refl, and_from _ _ has refl))
parted (Try c v) keeps has = (((keeps, record {}), record {}), (refl, refl))
parted (Empty c) keeps has = (((keeps, record {}), record {}), (refl, refl))
parted End keeps has = absurd (false≢true has)
parted Found keeps has = absurd (false≢true has)
parted Out keeps has = absurd (false≢true has)

-- a span that grew is of format 2
grown_formed : (kept line span : Line) → IsOfFormat Two kept → IsOfFormat Two line → is_span span ≡ true → one_span kept line ≡ Some span → IsOfFormat Two span × (has_nodes span ≡ true)
grown_formed (Remove c v d) line span first rest is join = cc
grown_formed (Try c v) line span first rest is join = cc
grown_formed (Empty c) line span first rest is join = cc
grown_formed End line span first rest is join = cc
grown_formed Found line span first rest is join = cc
grown_formed Out line span first rest is join = cc
grown_formed (Span c from last d) (Remove x v z) span first rest is join = cc
grown_formed (Span c from last d) (Try x v) span first rest is join = cc
grown_formed (Span c from last d) (Empty x) span first rest is join = cc
grown_formed (Span c from last d) End span first rest is join = cc
grown_formed (Span c from last d) Found span first rest is join = cc
grown_formed (Span c from last d) Out span first rest is join = cc
grown_formed (Span c from last d) (Span x next to z) span first rest is join = by (nat_eq x c && (nat_eq z d && nat_eq next (last + 1))) join
  where
    by : (b : Bool) → cond b (Some (Span c from to d)) None ≡ Some span → IsOfFormat Two span × (has_nodes span ≡ true)
    by false e = cc
    by true e =
        let same : Span c from to d ≡ span = cc in
        let order : nat_le from to ≡ true = ap is_span same ∙ is in
        subst (λ (l : Line). IsOfFormat Two l × (has_nodes l ≡ true)) same ((first.0, grind (arith, nat_tests), rest.2, first.3), order)

-- one plain line more
spelled_on : (joined : Joined) (told : List Line) (line : Line) → IsSpelled joined told → IsPlain line → IsSpelled (join_line joined line) (told ++ line ∷ [])
spelled_on joined told line is plain = by (join_with joined.kept (as_span line)) refl
  where
    by : (o : Option Line) → join_with joined.kept (as_span line) ≡ o → IsSpelled (grown_or_apart joined (as_span line) o) (told ++ line ∷ [])
    by None e =
        let parts = parted (as_span line) plain.format plain.has in
        record {
          formed = (of_format-append Two joined.done (line_if_any joined.kept ++ settled_part (as_span line)) is.formed.0 (of_format-append Two (line_if_any joined.kept) (settled_part (as_span line)) is.formed.1 parts.0.0), parts.0.1);
          has = (all_has joined.done (line_if_any joined.kept ++ settled_part (as_span line)) is.has.0 (all_has (line_if_any joined.kept) (settled_part (as_span line)) is.has.1 parts.1.0), parts.1.1);
          kept = growing_kept (as_span line) plain.whole;
          counts = ap counted_lines
              (ap (λ ls. ls ++ line_if_any (growing_part (as_span line))) (sym (append_assoc joined.done (line_if_any joined.kept) (settled_part (as_span line))))
              ∙ append_assoc (all_joined joined) (settled_part (as_span line)) (line_if_any (growing_part (as_span line)))
              ∙ ap (λ ls. all_joined joined ++ ls) (settled_growing (as_span line)))
              ∙ flat_map-append counted_as (all_joined joined) (as_span line ∷ [])
              ∙ (λ i. is.counts i ++ (append-nil (counted_as (as_span line)) ∙ plain.counts ∙ plain.alone) i);
        }
    by (Some span) e = grown joined.kept refl
      where
        grown : (kept : Option Line) → joined.kept ≡ kept → IsSpelled (record { done = joined.done; kept = Some span }) (told ++ line ∷ [])
        grown None k = let none : None ≡ Some span = sym (ap (λ o. join_with o (as_span line)) k) ∙ e in cc
        grown (Some kept) k =
            let join : one_span kept (as_span line) ≡ Some span = sym (ap (λ o. join_with o (as_span line)) k) ∙ e in
            let spans : is_span kept ≡ true = sym (ap is_kept k) ∙ is.kept in
            let counts = grown_counts kept (as_span line) span spans plain.whole join in
            let formed = subst (λ (o : Option Line). AreOfFormat Two (line_if_any o)) k is.formed.1 in
            let good = grown_formed kept (as_span line) span formed.0 plain.format counts.1 join in
            let before : counted_lines (joined.done ++ kept ∷ []) ≡ told = sym (ap (λ o. counted_lines (joined.done ++ line_if_any o)) k) ∙ is.counts in
            record {
              formed = (is.formed.0, (good.0, record {}));
              has = (is.has.0, and_from _ _ good.1 refl);
              kept = counts.1;
              counts = flat_map-append counted_as joined.done (span ∷ [])
                  ∙ ap (λ ls. counted_lines joined.done ++ (ls ++ [])) counts.0
                  ∙ ap (λ ls. counted_lines joined.done ++ ls) (append_assoc (counted_as kept) (counted_as (as_span line)) [])
                  ∙ sym (append_assoc (counted_lines joined.done) (counted_as kept) (counted_as (as_span line) ++ []))
                  ∙ ap (λ ls. (counted_lines joined.done ++ ls) ++ (counted_as (as_span line) ++ [])) (sym (append-nil (counted_as kept)))
                  ∙ ap (λ ls. ls ++ (counted_as (as_span line) ++ [])) (sym (flat_map-append counted_as joined.done (kept ∷ [])) ∙ before)
                  ∙ ap (λ ls. told ++ ls) (append-nil (counted_as (as_span line)) ∙ plain.counts ∙ plain.alone);
            }

spelled_all : (joined : Joined) (told lines : List Line) → IsSpelled joined told → ArePlain lines → IsSpelled (join_on joined lines) (told ++ lines)
spelled_all joined told [] is plain = subst (IsSpelled joined) (sym (append-nil told)) is
spelled_all joined told (line ∷ lines) is plain =
    subst (IsSpelled (join_on joined (line ∷ lines))) (append_assoc told (line ∷ []) lines) (spelled_all (join_line joined line) (told ++ line ∷ []) lines (spelled_on joined told line is plain.0) plain.1)

-- joined lines are of format 2, and spell what they were made of
pub spans_spell : (format : Format) (lines : List Line) → AreOfFormat format lines → list_all has_nodes lines ≡ true
    → AreOfFormat Two (in_spans (counted_lines lines)) × (list_all has_nodes (in_spans (counted_lines lines)) ≡ true) × (nodes_of_lines (in_spans (counted_lines lines)) ≡ nodes_of_lines lines)
spans_spell format lines formed has =
    let start : IsSpelled nothing_joined [] = record { formed = (record {}, record {}); has = (refl, refl); kept = refl; counts = refl } in
    let joined = join_on nothing_joined (counted_lines lines) in
    let is = spelled_all nothing_joined [] (counted_lines lines) start (plain_lines format lines formed has) in (
      of_format-append Two joined.done (line_if_any joined.kept) is.formed.0 is.formed.1,
      all_has joined.done (line_if_any joined.kept) is.has.0 is.has.1,
      sym (spelled_counted (in_spans (counted_lines lines))) ∙ ap nodes_of_lines is.counts ∙ spelled_counted lines,
    )

-- an end comes behind joined lines
spans_ended : (lines : List Line) → in_spans (counted_lines (lines ++ End ∷ [])) ≡ in_spans (counted_lines lines) ++ End ∷ []
spans_ended lines =
    let joined = join_on nothing_joined (counted_lines lines) in
    ap in_spans (flat_map-append counted_as lines (End ∷ []))
    ∙ ap all_joined (join_on-append nothing_joined (counted_lines lines) (End ∷ []))
    ∙ by joined joined.kept refl
  where
    by : (j : Joined) (o : Option Line) → j.kept ≡ o → all_joined (join_line j End) ≡ all_joined j ++ End ∷ []
    by j o k = ap (λ p. all_joined (grown_or_apart j End p)) (ap (λ p. join_with p End) k ∙ none o) ∙ append-nil (j.done ++ (line_if_any j.kept ++ End ∷ [])) ∙ sym (append_assoc j.done (line_if_any j.kept) (End ∷ []))
      where
        none : (p : Option Line) → join_with p End ≡ None
        none None = refl
        none (Some (Remove c v d)) = refl
        none (Some (Span c first last d)) = refl
        none (Some (Try c v)) = refl
        none (Some (Empty c)) = refl
        none (Some End) = refl
        none (Some Found) = refl
        none (Some Out) = refl

-- the text in format 2 is one of the same proof
pub proof_kept : (P : Network) (shape : Shape) (format : Format) (proof : Proof) (bytes : List ℕ) → IsShape shape → P.cells < 2 ^ 32 → values_of P < 2 ^ 32 → IsTextOf P shape format proof bytes
    → IsTextOf P shape Two proof (upgraded_text P shape bytes)
unfolding whole_lines
proof_kept P shape format proof bytes is cells values text =
    let whole = whole_lines P shape format proof bytes text in
    let read = text_read P shape format bytes whole.0 is cells values whole.1 whole.2 in
    let told : lines_in (format_at bytes) bytes ≡ whole.0 = ap (λ f. lines_in f bytes) read.at ∙ read.read in
    let spells = spans_spell format text.lines text.formed text.spells.0 in
    record {
      closes = text.closes;
      lines = in_spans (counted_lines text.lines);
      formed = spells.0;
      spells = (spells.1, spells.2 ∙ text.spells.1);
      text = ap (λ ls. head_2_text shape P.cells (values_of P) ++ text_of ls) (ap (λ ls. in_spans (counted_lines ls)) told ∙ spans_ended text.lines);
    }

-- the end of what is left
pub taken_all : (format : Format) (rest : List ℕ) (kept : Option Line) (first old new : SinkView) (all : List Line) (result : Result (Unit {0}) SinkFault) → length rest ≡ 0
    → PutsOrCuts old new (text_of (line_if_any kept)) result
    → ((new : SinkView) (result : Result (Unit {0}) SinkFault) → Puts old new (text_of (spans_left kept (lines_in format rest))) result → Puts first new (text_of (spans_left None all)) result)
    → Puts first new (text_of (spans_left None all)) result
taken_all format rest kept first old new all result none put puts =
    puts new result (subst (λ ls. Puts {T = Unit {0}} {E = SinkFault} old new (text_of ls) result) (sym (none_left format rest kept none)) (puts_or_cuts {T = Unit {0}} {E = SinkFault} old new (text_of (line_if_any kept)) result put))

-- a kept span is put with its end
pub kept_whole : (old new : SinkView) (kept : Line) (result : Result (Unit {0}) SinkFault) → PutsOrCuts old new (with_line_end (line_text kept)) result → PutsOrCuts old new (text_of (kept ∷ [])) result
kept_whole old new kept result put = subst (λ t. PutsOrCuts {T = Unit {0}} {E = SinkFault} old new t result) (sym (text_of-one kept)) put

pub kept_put_all : (old new : SinkView) (kept : Option Line) (span : Line) (result : Result (Unit {0}) SinkFault) → kept ≡ Some span → PutsOrCuts old new (with_line_end (line_text span)) result
    → PutsOrCuts old new (text_of (line_if_any kept)) result
kept_put_all old new kept span result is put =
    subst (λ (o : Option Line). PutsOrCuts {T = Unit {0}} {E = SinkFault} old new (text_of (line_if_any o)) result) (sym is) (kept_whole old new span result put)

-- the head, and then the lines of a text that is led by a head
pub led_put : (old mid new : SinkView) (P : Network) (shape : Shape) (bytes : List ℕ) (result : Result (Unit {0}) SinkFault) → IsLed bytes → mid ≡ after_bytes old (head_2_text shape P.cells (values_of P))
    → Puts mid new (text_of (in_spans (counted_lines (lines_in (format_at bytes) (behind_head (format_at bytes) bytes))))) result → Puts old new (upgraded_text P shape bytes) result
led_put old mid new P shape bytes result led put rest =
    puts_on old mid new (head_2_text shape P.cells (values_of P)) (text_of (in_spans (counted_lines (lines_in (format_at bytes) bytes)))) result put
    (subst (λ ls. Puts {T = Unit {0}} {E = SinkFault} mid new (text_of (in_spans (counted_lines ls))) result) led.read rest)
