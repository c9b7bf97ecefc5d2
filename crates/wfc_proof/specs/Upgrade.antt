-- A refutation in format 2 that has the proof of another.
use Rattle.std.specs.Prelude.{◌≡◌, ℕ, ◌==◌, true, List, [], ◌∷◌, ◌++◌, Option, Result, Ok, Err, if◌then◌else◌}
use Rattle.wfc_outside.specs.Sink.{SinkView, after_bytes, IsFaultAfterFront}
use Rattle.wfc_problem.specs.Network.{Network, values}
use Rattle.wfc_proof.specs.Heads.{format_of, head_2_text}
use Rattle.wfc_proof.specs.Proof.{Proof}
use Rattle.wfc_proof.specs.ProofText.{IsTextOf}
use Rattle.wfc_proof.specs.Spans.{all_joined, counted_lines, in_spans, is_kept, join_on}
use Rattle.wfc_proof.specs.Telling.{read_text, text_of}
use Rattle.wfc_proof.specs.declared.Line.{Line}
use Rattle.wfc_proof.specs.declared.heads.Format.{Format}
use Rattle.wfc_proof.specs.declared.heads.Format.TheVariants.{One, Two}
use Rattle.wfc_proof.specs.declared.heads.Shape.{Shape}
use Rattle.wfc_proof.specs.declared.text.LineFault.{LineFault}

-- the first line of a text, without its end
abbrev pub line_at : List ℕ → List ℕ
line_at [] = []
line_at (byte ∷ bytes) = if byte == 10 then [] else byte ∷ line_at bytes

-- what stands behind it
abbrev pub behind_line : List ℕ → List ℕ
behind_line [] = []
behind_line (byte ∷ bytes) = if byte == 10 then bytes else behind_line bytes

-- the format that a first line names, and else the first
abbrev pub named_format : Result Format LineFault → Format
named_format (Ok format) = format
named_format (Err fault) = One

-- the format of a text
abbrev pub format_at : List ℕ → Format
format_at bytes = named_format (format_of (line_at bytes))

-- what stands behind the head of a text
abbrev pub behind_head : Format → List ℕ → List ℕ
behind_head One bytes = behind_line (behind_line bytes)
behind_head Two bytes = behind_line (behind_line (behind_line bytes))

-- the lines at the end of a text
abbrev pub lines_in : Format → List ℕ → List Line
lines_in format bytes = (read_text format bytes).lines

-- what stands behind the head of a text, in the format that its first line names
abbrev pub text_behind_head : List ℕ → List ℕ
text_behind_head bytes = behind_head (format_at bytes) bytes

-- the lines at the end of that
abbrev pub lines_behind_head : List ℕ → List Line
lines_behind_head bytes = lines_in (format_at bytes) (text_behind_head bytes)

-- the text in format 2 of what a text tells: its lines, their removals joined into spans
abbrev pub upgraded_text : Network → Shape → List ℕ → List ℕ
upgraded_text P shape bytes =
    head_2_text shape P.cells (values P)
    ++ text_of (in_spans (counted_lines (lines_in (format_at bytes) bytes)))

-- whatever proof the bytes are a text of, in either format, the text that is brought to format 2 is a text of it too
abbrev pub HasUpgradedProofs : Network → Shape → List ℕ → Type 0
HasUpgradedProofs P shape bytes =
    (format : Format) (proof : Proof) → IsTextOf P shape format proof bytes
    → IsTextOf P shape Two proof (upgraded_text P shape bytes)

-- what is still to be put of lines, behind a span that is kept
abbrev pub spans_left : Option Line → List Line → List Line
spans_left kept lines = all_joined (join_on (record { done = []; kept = kept }) (counted_lines lines))

-- a line was taken: of what is to be put, these lines were
pub record TakesLine (old new : SinkView) (before : Option Line) (line : Line) (after : Option Line) : Type 0 where
  pub put : List Line
  pub bytes : new ≡ after_bytes old (text_of put)
  pub on : (more : List Line) → spans_left before (line ∷ more) ≡ put ++ spans_left after more
  pub spans : is_kept after ≡ true

-- or a fault came, after a front of their text
pub record TakesFront (old new : SinkView) (before : Option Line) (line : Line) : Type 0 where
  pub put : List Line
  pub fault : IsFaultAfterFront old new (text_of put)
  pub on : (more : List Line) → (rest : List Line) × (spans_left before (line ∷ more) ≡ put ++ rest)
