-- What the lines of a run leave in a sink that they are put into while it is made.
use Rattle.rand_core.specs.Stream.{Stream}
use Rattle.std.specs.Prelude.{Err, List, Ok, Result, length, take, ⊤, ℕ, ◌<◌, ◌≡◌, ◌≤◌, ◌⊎◌}
use Rattle.wfc_choose.specs.Pick.{Rule}
use Rattle.wfc_outside.specs.Sink.{IsFaultAfterFront, SinkView, after_bytes}
use Rattle.wfc_plan.specs.Fault.{status_of}
use Rattle.wfc_problem.specs.Network.{Network}
use Rattle.wfc_proof.specs.Telling.{text_of}
use Rattle.wfc_proof.specs.declared.Line.{Line}
use Rattle.wfc_proof.specs.declared.heads.Format.{Format}
use Rattle.wfc_proof.specs.declared.heads.Format.TheVariants.{One, Two}
use Rattle.wfc_reply.specs.RunText.{IsBegunBy, IsToldBy, format_lines, writing_head, writing_text, written_format}
use Rattle.wfc_reply.specs.declared.putting.RunWriting.{RunWriting}
use Rattle.wfc_reply.specs.declared.reply.Stop.{Stop}
use Rattle.wfc_reply.specs.declared.reply.Stop.TheVariants.{Cut, Unanswered}
use Rattle.wfc_runs.specs.Words.{words_of_seed}
use Rattle.wfc_search.specs.Run.{State, start}
use Rattle.wfc_search.specs.Search.{SearchView, state_at}
use Rattle.wfc_search.specs.declared.Outcome.{Outcome}
use Rattle.wfc_search.specs.declared.Outcome.TheVariants as outcome

-- the lines of a run were put in this format
pub record PutsRun (format : Format) (rule : Rule) (budget : ℕ) (P : Network) (s : State)
    (outcome : Outcome) (old new : SinkView) : Type 0 where
  pub lines : List Line
  pub told : IsToldBy rule budget P s outcome lines
  pub put : new ≡ after_bytes old (text_of (format_lines format lines))

-- so many bytes of a text with a head of this length are a front that a fault may leave: in format 2 it ends within the
-- head, or before the last line ends, since that line could still grow
abbrev pub IsBrokenOff : Format → ℕ → ℕ → ℕ → Type 0
IsBrokenOff One bytes head text = ⊤
IsBrokenOff Two bytes head text = (bytes ≤ head) ⊎ (bytes < text)

-- or a fault came, after a front of the text of some of its first lines
pub record CutsRun (format : Format) (rule : Rule) (budget : ℕ) (P : Network) (s : State)
    (old new : SinkView) : Type 0 where
  pub lines : List Line
  pub begun : IsBegunBy rule budget P s lines
  pub count : ℕ
  pub within : count ≤ length lines
  pub bytes : ℕ
  pub broken : IsBrokenOff format bytes 0 (length (text_of (format_lines format (take count lines))))
  pub fault : IsFaultAfterFront old new (take bytes (text_of (format_lines format (take count lines))))

-- so from the state that a search is at, with these words to come
abbrev pub PutsFrom : Format → SearchView → Stream → Outcome → SinkView → SinkView → Type 0
PutsFrom format s words outcome old new =
    PutsRun format s.chooser.rule s.course.budget s.problem
    (state_at s.store s.course 0 words) outcome old new

-- so from the state that a search is at, where a fault cut the lines off
abbrev pub CutsFrom : Format → SearchView → Stream → SinkView → SinkView → Type 0
CutsFrom format s words old new =
    CutsRun format s.chooser.rule s.course.budget s.problem
    (state_at s.store s.course 0 words) old new

-- the head and the lines of the run were put
pub record PutsWriting (rule : Rule) (writing : RunWriting) (P : Network) (outcome : Outcome)
    (old new : SinkView) : Type 0 where
  pub lines : List Line
  pub told : IsToldBy rule writing.budget P (start (words_of_seed writing.seed)) outcome lines
  pub put : new ≡ after_bytes old (writing_text writing P lines)

-- so many bytes of the text of these lines, behind the head, are a front that a fault may leave
abbrev pub IsTextBrokenOff : RunWriting → Network → List Line → ℕ → Type 0
IsTextBrokenOff writing P lines bytes =
    IsBrokenOff (written_format writing.format) bytes (length (writing_head writing P)) (length (writing_text writing P lines))

-- or a fault came, after a front of the head and of some of its first lines
pub record CutsWriting (rule : Rule) (writing : RunWriting) (P : Network) (old new : SinkView) : Type 0 where
  pub lines : List Line
  pub begun : IsBegunBy rule writing.budget P (start (words_of_seed writing.seed)) lines
  pub count : ℕ
  pub within : count ≤ length lines
  pub bytes : ℕ
  pub broken : IsTextBrokenOff writing P (take count lines) bytes
  pub fault : IsFaultAfterFront old new (take bytes (writing_text writing P (take count lines)))

-- they were put, were cut off, or memory ran out before them
abbrev pub PutsOrStops : Rule → RunWriting → Network → SinkView → SinkView → Result Outcome Stop → Type 0
PutsOrStops rule writing P old new (Ok outcome) = PutsWriting rule writing P outcome old new
PutsOrStops rule writing P old new (Err Cut) = CutsWriting rule writing P old new
PutsOrStops rule writing P old new (Err (Unanswered fault)) = (status_of fault ≡ 6) × (new ≡ old)

-- first this text was put, and then the head and the lines of the run
pub record PutsFirst (first : List ℕ) (rule : Rule) (writing : RunWriting) (P : Network) (outcome : Outcome)
    (old new : SinkView) : Type 0 where
  pub mid : SinkView
  pub put : mid ≡ after_bytes old first
  pub puts : PutsWriting rule writing P outcome mid new

-- or a fault came behind it
pub record CutsBehind (first : List ℕ) (rule : Rule) (writing : RunWriting) (P : Network) (old new : SinkView) : Type 0 where
  pub mid : SinkView
  pub put : mid ≡ after_bytes old first
  pub cuts : CutsWriting rule writing P mid new

-- they were put, were cut off in the first text or behind it, or memory ran out before them
abbrev pub PutsBehind : List ℕ → Rule → RunWriting → Network → SinkView → SinkView → Result Outcome Stop → Type 0
PutsBehind first rule writing P old new (Ok outcome) = PutsFirst first rule writing P outcome old new
PutsBehind first rule writing P old new (Err Cut) =
    IsFaultAfterFront old new first ⊎ CutsBehind first rule writing P old new
PutsBehind first rule writing P old new (Err (Unanswered fault)) = (status_of fault ≡ 6) × (new ≡ old)
