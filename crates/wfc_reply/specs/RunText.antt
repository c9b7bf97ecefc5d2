-- The text of the lines of a run.
use Rattle.std.specs.Prelude.{List, if◌then◌else◌, ℕ, ◌++◌, ◌==◌, ◌≡◌, ◌⊎◌}
use Rattle.wfc_choose.specs.Pick.{Rule}
use Rattle.wfc_domains.specs.Store.{StoreView}
use Rattle.wfc_problem.specs.Network.{Network}
use Rattle.wfc_proof.specs.JournalText.{IsJournalText}
use Rattle.wfc_proof.specs.ProofText.{IsProofText, head_in}
use Rattle.wfc_proof.specs.Spans.{in_spans}
use Rattle.wfc_proof.specs.Telling.{text_of}
use Rattle.wfc_proof.specs.declared.Line.{Line}
use Rattle.wfc_proof.specs.declared.Line.TheVariants.{Found, Out}
use Rattle.wfc_proof.specs.declared.heads.Format.{Format}
use Rattle.wfc_proof.specs.declared.heads.Format.TheVariants.{One, Two}
use Rattle.wfc_proof.specs.declared.heads.Shape.{Shape}
use Rattle.wfc_reply.specs.declared.putting.RunWriting.{RunWriting}
use Rattle.wfc_search.specs.Run.{State, turn_of}
use Rattle.wfc_search.specs.Telling.{IsStoreAt, TellsRun, TellsTo, opening_lines, turn_lines}
use Rattle.wfc_search.specs.declared.Outcome.{Outcome}
use Rattle.wfc_search.specs.declared.Outcome.TheVariants as outcome

-- the format of what is written, by its number
abbrev pub written_format : ℕ → Format
written_format number = if number == 1 then One else Two

-- lines as they stand in a format: in format 2 their removals are joined into spans
abbrev pub format_lines : Format → List Line → List Line
format_lines One lines = lines
format_lines Two lines = in_spans lines

-- the head in the format and with the shape that are wanted
abbrev pub writing_head : RunWriting → Network → List ℕ
writing_head writing P = head_in (written_format writing.format) P writing.shape

-- the text of these lines, behind that head
abbrev pub writing_text : RunWriting → Network → List Line → List ℕ
writing_text writing P lines = writing_head writing P ++ text_of (format_lines (written_format writing.format) lines)

-- the run of the problem by the rule, the budget and the seed has this outcome, and tells these
-- lines from the opening of a store on
pub record IsToldBy (rule : Rule) (budget : ℕ) (P : Network) (s : State) (outcome : Outcome)
    (lines : List Line) : Type 0 where
  pub first : StoreView
  pub opened : IsStoreAt P s first
  pub tells : TellsRun P rule budget s first outcome lines

-- these are the lines of the opening of a store and of some turns of the run, from the first on
pub record IsBegunBy (rule : Rule) (budget : ℕ) (P : Network) (s : State) (lines : List Line) : Type 0 where
  pub first : StoreView
  pub opened : IsStoreAt P s first
  pub stores : List StoreView
  pub last : State
  pub before : List Line
  pub turns : TellsTo P rule budget s stores last before
  pub store : StoreView
  pub lines_are : (lines ≡ opening_lines first ++ before)
      ⊎ (IsStoreAt P (turn_of P rule budget last).1 store
      × (lines ≡ opening_lines first ++ (before ++ turn_lines (turn_of P rule budget last).0 store)))

-- what the text of a run is that ends so: without a map that of a proof that closes the base
-- domains; else that of one which
-- follows from them, with the line of the end behind it
abbrev pub IsRunText : Network → Shape → Outcome → List ℕ → Type 0
IsRunText P shape outcome.NoMap bytes = IsProofText P shape bytes
IsRunText P shape outcome.Map bytes = IsJournalText P shape Found bytes
IsRunText P shape outcome.Spent bytes = IsJournalText P shape Out bytes

-- the bytes are a front of the text of a run of the problem: of one of a proof that closes the base domains, or of one
-- that follows from them, with the line of the end behind it
pub record IsFrontOfText (P : Network) (shape : Shape) (bytes : List ℕ) : Type 0 where
  pub outcome : Outcome
  pub text : List ℕ
  pub is : IsRunText P shape outcome text
  pub more : List ℕ
  pub whole : text ≡ bytes ++ more
