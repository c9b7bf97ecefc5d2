-- What a journal that writes into a sink tells: its lines are read from the bytes that the sink took.
use Rattle.std.specs.Prelude.{◌≡◌, ℕ, ◌==◌, ◌<◌, ◌≤◌, false, List, [], ◌∷◌, ◌++◌, length, take, Option, None, Some}
use Rattle.std.specs.Prelude.{Result, Ok, Err, MatchResult, is_some, if◌then◌else◌}
use Rattle.std.specs.List.{flat_map}
use Rattle.std.specs.Option.{option_map}
use Rattle.std.specs.Borrow.{GName}
use Rattle.wfc_outside.specs.Count.{HasRisen}
use Rattle.wfc_outside.specs.Sink.{Taken, SinkView, IsFaultAfterFront, after_bytes}
use Rattle.wfc_proof.specs.Heads.{with_line_end}
use Rattle.wfc_proof.specs.Journal.{JournalView, Target, counted_as}
use Rattle.wfc_proof.specs.Text.{line_of, line_2_of, line_text}
use Rattle.wfc_proof.specs.declared.Line.{Line}
use Rattle.wfc_proof.specs.declared.heads.Format.{Format}
use Rattle.wfc_proof.specs.declared.heads.Format.TheVariants.{One, Two}
use Rattle.wfc_proof.specs.declared.text.LineFault.{LineFault}

-- the text of lines
abbrev pub text_of : List Line → List ℕ
text_of lines = flat_map (λ line. with_line_end (line_text line)) lines

-- what was read of a text: the bytes up to its last ended line that is none of the format, the
-- lines behind it, and the bytes
-- of the line that didn't end
pub record Reading : Type 0 where
  pub before : List ℕ
  pub lines : List Line
  pub part : List ℕ

-- the line of the format that bytes spell
abbrev pub line_in : Format → List ℕ → Result Line LineFault
line_in One bytes = line_of bytes
line_in Two bytes = line_2_of bytes

-- what was read after a line ended: one line more, or none where it is no line of the format
abbrev pub and_line : Reading → Result Line LineFault → Reading
and_line read (Ok line) = record { before = read.before; lines = read.lines ++ line ∷ []; part = [] }
and_line read (Err fault) = record { before = read.before ++ (text_of read.lines ++ with_line_end read.part); lines = []; part = [] }

-- what was read after one more byte
abbrev pub read_byte : Format → Reading → ℕ → Reading
read_byte format read byte =
    if byte == 10 then and_line read (line_in format read.part)
    else record { before = read.before; lines = read.lines; part = read.part ++ byte ∷ [] }

-- what was read after more bytes
abbrev pub read_on : Format → Reading → List ℕ → Reading
read_on format read [] = read
read_on format read (byte ∷ bytes) = read_on format (read_byte format read byte) bytes

-- what is read of a text
abbrev pub read_text : Format → List ℕ → Reading
read_text format bytes = read_on format (record { before = []; lines = []; part = [] }) bytes

-- the lines at the end of what was taken
abbrev pub lines_at_end : Format → Taken → List Line
lines_at_end format taken = (read_text format taken.bytes).lines

-- what was taken before them
abbrev pub before_lines : Format → Taken → Taken
before_lines format taken = record taken { bytes = (read_text format taken.bytes).before }

-- what was taken behind them: the front of a line
abbrev pub part_at_end : Format → Taken → List ℕ
part_at_end format taken = (read_text format taken.bytes).part

-- the sink that a journal of this format writes into
abbrev pub target_of : Format → GName → SinkView → Target
target_of format name sink = record { name = name; before = option_map (before_lines format) sink.told }

-- the lines of a refused one, if there is one
abbrev pub refused_lines : Option Line → List Line
refused_lines None = []
refused_lines (Some line) = counted_as line

-- a journal of format 1 over a sink: the lines at the end of what the sink took, and then those of the refused one
abbrev pub journal_of : GName → SinkView → Option Line → JournalView
journal_of name sink refused = record {
  lines = option_map (λ (taken : Taken). lines_at_end One taken ++ refused_lines refused) sink.told;
  failed = is_some refused;
  faults = sink.faults;
  target = Some (target_of One name sink);
}

-- behind the lines stands a front of the text of what waits to be put, and the bytes aren't finished
abbrev pub IsAt : Format → Option Taken → List Line → Type 0
IsAt format told waiting =
    (option_map (part_at_end format) told ≡ option_map (λ (taken : Taken). take (length (part_at_end format taken)) (text_of waiting)) told)
    × (option_map (λ (taken : Taken). taken.finished) told ≡ option_map (λ (taken : Taken). false) told)

-- no line of the format stands at the end of what was taken, and no front of one
abbrev pub IsBare : Format → Option Taken → Type 0
IsBare format told =
    (option_map (lines_at_end format) told ≡ option_map (λ (taken : Taken). let none : List Line = [] in none) told)
    × IsAt format told []

-- a journal of either format that was begun, over a sink that took all of this: it tells no line,
-- where its sink tells its bytes
abbrev pub new_journal : GName → SinkView → JournalView
new_journal name sink = record {
  lines = option_map (λ (taken : Taken). let none : List Line = [] in none) sink.told;
  failed = false;
  faults = sink.faults;
  target = Some (record { name = name; before = sink.told });
}

-- a journal that was begun where this head was put into the sink
abbrev pub begun_journal : GName → SinkView → List ℕ → JournalView
begun_journal name sink head = new_journal name (after_bytes sink head)

-- a fault was counted after the sink took a front of these bytes that isn't the whole
pub record IsCutShort (old new : SinkView) (bytes : List ℕ) : Type 0 where
  pub n : ℕ
  pub less : n < length bytes
  pub front : new.told ≡ (after_bytes old (take n bytes)).told
  pub counted : HasRisen old.faults new.faults

-- a fault came after the sink took a front of the text of some of these lines, from the first on
abbrev pub IsFaultAfterLines : SinkView → SinkView → List Line → Type 0
IsFaultAfterLines old new lines =
    (count : ℕ) × (count ≤ length lines) × IsFaultAfterFront old new (text_of (take count lines))

-- the bytes were put, or a front of them that isn't the whole and then a fault was counted
abbrev pub PutsOrCuts : {T E : Type 0} → SinkView → SinkView → List ℕ → Result T E → Type 0
PutsOrCuts old new bytes result = MatchResult result (λ _. new ≡ after_bytes old bytes) (λ _. IsCutShort old new bytes)

-- the lines that a line counts as were put up to one, of which a front was put; it and those behind
-- it are the refused line's
pub record IsCutAt (old new : SinkView) (line refused : Line) : Type 0 where
  pub done : List Line
  pub first : Line
  pub rest : List Line
  pub split : counted_as line ≡ done ++ (first ∷ rest)
  pub left : counted_as refused ≡ first ∷ rest
  pub cut : IsCutShort (after_bytes old (text_of done)) new (with_line_end (line_text first))

-- the lines that a line counts as were put, or else it was cut off
abbrev pub PutsCounted : {T : Type 0} → SinkView → SinkView → Line → Result T Line → Type 0
PutsCounted old new line result =
    MatchResult result (λ _. new ≡ after_bytes old (text_of (counted_as line)))
    (λ refused. IsCutAt old new line refused)
