-- What `explain` answers to an explanation.
use Rattle.std.specs.List.{flat_map}
use Rattle.std.specs.Prelude.{All, List, None, Option, Some, codes, decimal, length, slice_index, true, ℕ, ⊤, ◌++◌, ◌<◌}
use Rattle.wfc_choose.specs.Pick.{Rule}
use Rattle.wfc_explain.specs.Pinned.{PinnedView}
use Rattle.wfc_explain.specs.Trials.{explanation_of}
use Rattle.wfc_explain.specs.declared.explained.Explained.{Explained}
use Rattle.wfc_explain.specs.declared.explained.Explained.TheVariants as explained
use Rattle.wfc_explain.specs.declared.explained.Kept.{Kept}
use Rattle.wfc_explain.specs.declared.explained.Mark.{Mark}
use Rattle.wfc_explain.specs.declared.explained.Mark.TheVariants.{Needed, Undecided}
use Rattle.wfc_reply.specs.Choosers.{first_rule}
use Rattle.wfc_reply.specs.Reply.{Answered}
use Rattle.wfc_reply.specs.declared.reply.CommandVerdict.{CommandVerdict}
use Rattle.wfc_reply.specs.declared.reply.CommandVerdict.TheVariants.{Done, MapExists, Spent}
use Rattle.wfc_runs.specs.Words.{words_of_seed}
use Rattle.wfc_words.specs.RequestView.{RequestView}

-- the word for a mark
abbrev pub mark_word : Mark → List ℕ
mark_word Needed = codes "needed"
mark_word Undecided = codes "undecided"

-- the line of a line that is kept: its mark, and its number in the pins file
abbrev pub kept_line : List ℕ → Kept → List ℕ
kept_line numbers kept = mark_word kept.mark ++ codes " " ++ decimal (slice_index numbers kept.index) ++ codes "\n"

-- the text of a core: how many lines are kept, and then each of them
abbrev pub core_text : List ℕ → List Kept → List ℕ
core_text numbers core =
    codes "core " ++ decimal (length core) ++ codes "\n" ++ flat_map (kept_line numbers) core

-- what `explain` writes of an explanation: its core, or nothing
abbrev pub explain_text : List ℕ → Explained → Option (List ℕ)
explain_text numbers (explained.Core core) = Some (core_text numbers core)
explain_text numbers explained.MapExists = None
explain_text numbers explained.Spent = None

-- how `explain` ends with it
abbrev pub explain_verdict : ℕ → Explained → CommandVerdict
explain_verdict budget (explained.Core core) = Done
explain_verdict budget explained.MapExists = MapExists
explain_verdict budget explained.Spent = Spent budget

-- the status of it
abbrev pub explain_status : Explained → ℕ
explain_status (explained.Core core) = 0
explain_status explained.MapExists = 1
explain_status explained.Spent = 2

-- the lines of a core are some of so many
abbrev pub AreLines : ℕ → Explained → Type 0
AreLines count (explained.Core core) = All (λ (kept : Kept). kept.index < count) core
AreLines count explained.MapExists = ⊤
AreLines count explained.Spent = ⊤

-- the explanation by a rule, if there is one, with the budget and the words of the seed asked for
abbrev pub asked_explanation : Option Rule → RequestView → PinnedView → Option Explained
asked_explanation None asked v = None
asked_explanation (Some rule) asked v = Some (explanation_of v rule asked.budget (words_of_seed asked.seed))

-- the answer to an explanation
abbrev pub answer_to : RequestView → List ℕ → Explained → Answered
answer_to asked numbers said =
    record { verdict = explain_verdict asked.budget said; text = explain_text numbers said; whole = true }

-- the answer to an explanation, if there is one
abbrev pub explain_answer : RequestView → List ℕ → Option Explained → Option Answered
explain_answer asked numbers None = None
explain_answer asked numbers (Some said) = Some (answer_to asked numbers said)

-- the explanation by this rule, with the budget and the words of the seed asked for
abbrev pub explanation_asked : Rule → RequestView → PinnedView → Explained
explanation_asked rule asked v = explanation_of v rule asked.budget (words_of_seed asked.seed)

-- the answer by these rules, where the lines that can be left out have these numbers
abbrev pub explained_by : List Rule → RequestView → List ℕ → PinnedView → Option Answered
explained_by rules asked numbers v = explain_answer asked numbers (asked_explanation (first_rule asked.rule rules) asked v)
