-- What a command replies, its status, and what of it the sink of the answer takes.
use Rattle.std.specs.Prelude.{Bool, List, None, Option, Result, Some, false, true, ℕ, ◌≡◌, ◌≤◌, ◌⊎◌}
use Rattle.wfc_lines.specs.Check.{text_of_check}
use Rattle.wfc_lines.specs.Grow.{text_of_stuck}
use Rattle.wfc_lines.specs.Outcome.{map_exists_text, no_domains_text, no_map_text, text_of_budget}
use Rattle.wfc_outside.specs.Sink.{IsFaultAfterFront, SinkView, after_bytes, after_finish}
use Rattle.wfc_plan.specs.declared.fault.Fault.{Fault}
use Rattle.wfc_plan.specs.declared.fault.Source.TheVariants as source
use Rattle.wfc_reply.specs.FileNames.{name_of}
use Rattle.wfc_reply.specs.declared.reply.CommandVerdict.{CommandVerdict}
use Rattle.wfc_reply.specs.declared.reply.CommandVerdict.TheVariants.{Dead, Done, MapExists, NoMap, Spent, Stuck, Unaccepted}
use Rattle.wfc_words.specs.RequestView.{RequestView}

-- an answer: how the command ended, and the text that it writes, if it writes any; where it isn't
-- the whole, the text is one
-- of which a sink that failed took a front
pub record Answered : Type 0 where
  pub verdict : CommandVerdict
  pub text : Option (List ℕ)
  pub whole : Bool

-- a command that is done, with its text
abbrev pub done_with : List ℕ → Answered
done_with text = record { verdict = Done; text = Some text; whole = true }

-- an answer, or a fault
abbrev pub Reply : Type 0
Reply = Result Answered Fault

-- the exit status of a verdict
abbrev pub verdict_status : CommandVerdict → ℕ
verdict_status Done = 0
verdict_status NoMap = 1
verdict_status (Spent budget) = 2
verdict_status Dead = 1
verdict_status MapExists = 1
verdict_status (Unaccepted fault) = 1
verdict_status (Stuck x y) = 8

-- a status of an answer: 0, 1 and 2, and 8; a fault has one from 4 to 7, and words that are no request have 3
abbrev pub HasAnswer : ℕ → Type 0
HasAnswer status = (status ≤ 2) ⊎ (status ≡ 8)

-- the status of a no
abbrev pub IsNoStatus : ℕ → Type 0
IsNoStatus status = (status ≡ 1) ⊎ (status ≡ 8)

-- what the error stream is told of a verdict
abbrev pub verdict_text : RequestView → CommandVerdict → Option (List ℕ)
verdict_text asked Done = None
verdict_text asked NoMap = Some no_map_text
verdict_text asked (Spent budget) = Some (text_of_budget budget)
verdict_text asked Dead = Some no_domains_text
verdict_text asked MapExists = Some map_exists_text
verdict_text asked (Unaccepted fault) = Some (text_of_check fault (name_of asked source.Refutation))
verdict_text asked (Stuck x y) = Some (text_of_stuck x y)

-- the sink took the whole text and was finished, or there is none and it is as before
abbrev pub Takes : Option (List ℕ) → SinkView → SinkView → Type 0
Takes None old new = new ≡ old
Takes (Some text) old new = new ≡ after_finish (after_bytes old text)

-- so, and the text is the whole
abbrev pub TakesWhole : Bool → Option (List ℕ) → SinkView → SinkView → Type 0
TakesWhole true text old new = Takes text old new
TakesWhole false text old new = ⊥

-- the sink failed after a front of the text
abbrev pub CutsOff : Option (List ℕ) → SinkView → SinkView → Type 0
CutsOff None old new = ⊥
CutsOff (Some text) old new = IsFaultAfterFront old new text
