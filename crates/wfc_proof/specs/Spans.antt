-- Removals joined into spans, as they are told.
use Rattle.std.specs.Prelude.{◌≡◌, ℕ, ◌+◌, ◌≤◌, ◌==◌, ◌&&◌, ◌⊎◌, nat_le, Bool, true, false, length, take, if◌then◌else◌}
use Rattle.std.specs.Prelude.{List, [], ◌∷◌, ◌++◌, Option, None, Some, is_some}
use Rattle.std.specs.List.{flat_map}
use Rattle.std.specs.Option.{option_map}
use Rattle.std.specs.Borrow.{GName}
use Rattle.wfc_outside.specs.Sink.{Taken, SinkView, after_bytes}
use Rattle.wfc_proof.specs.Heads.{with_line_end}
use Rattle.wfc_proof.specs.Journal.{JournalView, counted_as}
use Rattle.wfc_proof.specs.ProofText.{IsOfFormat, AreOfFormat}
use Rattle.wfc_proof.specs.Telling.{text_of, lines_at_end, target_of, IsAt, IsCutShort}
use Rattle.wfc_proof.specs.Text.{line_text}
use Rattle.wfc_proof.specs.declared.Line.{Line}
use Rattle.wfc_proof.specs.declared.Line.TheVariants.{Remove, Span, Try, Empty, End, Found, Out}
use Rattle.wfc_proof.specs.declared.heads.Format.TheVariants.{Two}

-- the lines that lines count as
abbrev pub counted_lines : List Line → List Line
counted_lines lines = flat_map counted_as lines

-- a removal as a span of one value, and any other line as itself
abbrev pub as_span : Line → Line
as_span (Remove c v d) = Span c v v d
as_span (Span c first last d) = Span c first last d
as_span (Try c v) = Try c v
as_span (Empty c) = Empty c
as_span End = End
as_span Found = Found
as_span Out = Out

-- two spans as one, if they are of one cell and direction and the values of the second follow
abbrev pub span_behind : ℕ → ℕ → ℕ → ℕ → Line → Option Line
span_behind c first last d (Remove x v z) = None
span_behind c first last d (Span x from to z) =
    if x == c && (z == d && from == last + 1) then Some (Span c first to d) else None
span_behind c first last d (Try x v) = None
span_behind c first last d (Empty x) = None
span_behind c first last d End = None
span_behind c first last d Found = None
span_behind c first last d Out = None

-- two lines as one span, if both are spans and the second goes on where the first ends
abbrev pub one_span : Line → Line → Option Line
one_span (Remove c v d) line = None
one_span (Span c first last d) line = span_behind c first last d line
one_span (Try c v) line = None
one_span (Empty c) line = None
one_span End line = None
one_span Found line = None
one_span Out line = None

-- the span that a line that may still grow and the one behind it are, if they are one
abbrev pub join_with : Option Line → Line → Option Line
join_with None line = None
join_with (Some kept) line = one_span kept line

-- the part of a line that may still grow: the line, if it is a span
abbrev pub growing_part : Line → Option Line
growing_part (Remove c v d) = None
growing_part (Span c first last d) = Some (Span c first last d)
growing_part (Try c v) = None
growing_part (Empty c) = None
growing_part End = None
growing_part Found = None
growing_part Out = None

-- the part of a line that can't grow: the line, if it is no span
abbrev pub settled_part : Line → List Line
settled_part (Remove c v d) = Remove c v d ∷ []
settled_part (Span c first last d) = []
settled_part (Try c v) = Try c v ∷ []
settled_part (Empty c) = Empty c ∷ []
settled_part End = End ∷ []
settled_part Found = Found ∷ []
settled_part Out = Out ∷ []

-- the line, if there is one
abbrev pub line_if_any : Option Line → List Line
line_if_any None = []
line_if_any (Some line) = line ∷ []

-- lines that were joined: those that can't grow, and the span behind them that may
pub record Joined : Type 0 where
  pub done : List Line
  pub kept : Option Line

-- before the first line is joined: no lines, and no span that may grow
abbrev pub nothing_joined : Joined
nothing_joined = record { done = []; kept = None }

-- with a line behind them that is no part of the last span
abbrev pub apart : Joined → Line → Joined
apart joined line = record { done = joined.done ++ (line_if_any joined.kept ++ settled_part line); kept = growing_part line }

-- with a line behind them: the last span grew to this one, or, where there is none, the line is no part of it
abbrev pub grown_or_apart : Joined → Line → Option Line → Joined
grown_or_apart joined line None = apart joined line
grown_or_apart joined line (Some span) = record { done = joined.done; kept = Some span }

-- with one more line behind them
abbrev pub join_line : Joined → Line → Joined
join_line joined line = grown_or_apart joined (as_span line) (join_with joined.kept (as_span line))

-- with more lines behind them
abbrev pub join_on : Joined → List Line → Joined
join_on joined [] = joined
join_on joined (line ∷ lines) = join_on (join_line joined line) lines

-- where the lines are joined, no span at their end may still grow
abbrev pub AreSettled : List Line → Type 0
AreSettled lines = (join_on nothing_joined lines).kept ≡ None

-- all of them
abbrev pub all_joined : Joined → List Line
all_joined joined = joined.done ++ line_if_any joined.kept

-- lines, their removals joined into spans as they are told: a removal goes into the span before it if it is of the same
-- cell and direction and its value is the next one
abbrev pub in_spans : List Line → List Line
in_spans lines = all_joined (join_on nothing_joined lines)

-- a fault came after the sink took a front, that isn't the whole, of the text of some of these lines, from the first on, with
-- their removals joined into spans
abbrev pub IsCutInSpans : SinkView → SinkView → List Line → Type 0
IsCutInSpans old new lines =
    (count : ℕ) × (count ≤ length lines) × IsCutShort old new (text_of (in_spans (take count lines)))

-- lines with one more, which stands behind them, or is one span with the last of them
abbrev pub AreWithOneMore : List Line → Line → List Line → Type 0
AreWithOneMore lines line more =
    (more ≡ lines ++ line ∷ [])
    ⊎ ((front : List Line) × (last : Line) × (span : Line) × (lines ≡ front ++ last ∷ []) × (one_span last line ≡ Some span)
    × (more ≡ front ++ span ∷ []))

-- the lines at the end of what was taken, where that is told
abbrev pub ending : Option Taken → Option (List Line)
ending told = option_map (lines_at_end Two) told

-- a journal of format 2 over a sink: what the lines at the end of what the sink took count as, then the span that isn't
-- written yet, and then the refused line
abbrev pub spans_of : GName → SinkView → Option Line → Option Line → JournalView
spans_of name sink kept refused = record {
  lines = option_map (λ (lines : List Line). counted_lines (lines ++ (line_if_any kept ++ line_if_any refused))) (ending sink.told);
  failed = is_some refused;
  faults = sink.faults;
  target = Some (target_of Two name sink);
}

-- what waits to be put: nothing before a line was refused, and then the span that isn't written and the refused line
abbrev pub waiting_lines : Option Line → Option Line → List Line
waiting_lines kept None = []
waiting_lines kept (Some refused) = line_if_any kept ++ refused ∷ []

-- how the lines at the end of what was taken are joined, with those that aren't there
abbrev pub joined_as : Option Line → Option Line → List Line → Joined
joined_as kept None lines = record { done = lines; kept = kept }
joined_as kept (Some refused) lines = apart (record { done = lines; kept = kept }) refused

-- all that was told is joined so
abbrev pub AreJoined : Option (List Line) → Option Line → Option Line → Type 0
AreJoined told kept refused =
    option_map (λ (lines : List Line). join_on nothing_joined (counted_lines (lines ++ (line_if_any kept ++ line_if_any refused)))) told
    ≡ option_map (joined_as kept refused) told

-- whether a line is a span that doesn't end before it begins
abbrev pub is_span : Line → Bool
is_span (Remove c v d) = false
is_span (Span c first last d) = nat_le first last
is_span (Try c v) = false
is_span (Empty c) = false
is_span End = false
is_span Found = false
is_span Out = false

-- whether what may still grow is nothing, or a span that doesn't end before it begins
abbrev pub is_kept : Option Line → Bool
is_kept None = true
is_kept (Some line) = is_span line

-- what holds of a journal of format 2 between its lines: behind the lines that it put stands a
-- front of what waits, all that it
-- was told is joined so, and what it keeps is a span
pub record IsSpanning (sink : SinkView) (kept refused : Option Line) : Type 0 where
  pub at : IsAt Two sink.told (waiting_lines kept refused)
  pub joined : AreJoined (ending sink.told) kept refused
  pub spans : is_kept kept ≡ true

-- the kept span and a line behind it that is no part of it were cut off: some of them were put, and
-- a front of the next one;
-- what is left is kept
pub record IsCutApart (old new : SinkView) (before : Option Line) (line : Line) (after : Option Line) : Type 0 where
  pub done : List Line
  pub first : Line
  pub rest : List Line
  pub split : line_if_any before ≡ done ++ line_if_any after
  pub left : line_if_any after ++ line ∷ [] ≡ first ∷ rest
  pub most : List Line
  pub firm : line_if_any before ++ settled_part line ≡ done ++ first ∷ most
  pub spans : is_kept after ≡ true
  pub formed : AreOfFormat Two done
  pub format : IsOfFormat Two first
  pub cut : IsCutShort (after_bytes old (text_of done)) new (with_line_end (line_text first))

-- the kept span and a line behind it that is no part of it were put, as far as they can't grow, and what may is kept
pub record PutsApart (old new : SinkView) (before : Option Line) (line : Line) (after : Option Line) : Type 0 where
  pub kept : after ≡ growing_part line
  pub formed : AreOfFormat Two (line_if_any before ++ settled_part line)
  pub put : new ≡ after_bytes old (text_of (line_if_any before ++ settled_part line))
