-- What `explain` answers by the first chooser of its kind.
use Rattle.std.proofs.Common.{Err, List, Ok, Option, Result, Some, ap, arith, subst, sym, ℕ, ◌<◌, ◌∙◌, ◌≡◌, ◌≤◌}
use Rattle.std.specs.Prelude.{All, IfOk}
use Rattle.wfc_choose.specs.Pick.{Rule}
use Rattle.wfc_choose.specs.declared.RuleKind.{RuleKind}
use Rattle.wfc_explain.specs.Blame.{IsTrueExplained}
use Rattle.wfc_explain.specs.Pinned.{PinnedView}
use Rattle.wfc_explain.specs.Trials.{explanation_of}
use Rattle.wfc_explain.specs.declared.explained.Explained.{Explained}
use Rattle.wfc_explain.specs.declared.explained.Explained.TheVariants as explained
use Rattle.wfc_explain.specs.declared.explained.Kept.{Kept}
use Rattle.wfc_outside.specs.declared.NoMemory.{NoMemory}
use Rattle.wfc_plan.specs.Kinds.{HasChoosers}
use Rattle.wfc_reply.proofs.CallerLemmas.{plain_kind}
use Rattle.wfc_reply.specs.Choosers.{first_rule, kinds_of}
use Rattle.wfc_reply.specs.ReplyView.{answer_view}
use Rattle.wfc_reply.specs.declared.reply.Answer.{Answer}
use Rattle.wfc_run_commands.specs.ExplainAnswer.{AreLines, answer_to, explain_answer, asked_explanation}
use Rattle.wfc_run_commands.specs.ExplainGiven.{IsExplainAsked}
use Rattle.wfc_runs.specs.Words.{words_of_seed}
use Rattle.wfc_words.specs.InRange.{IsInRange}
use Rattle.wfc_words.specs.Named.{is_rankable}
use Rattle.wfc_words.specs.RequestView.{RequestView}
use Rattle.wfc_words.specs.declared.kinds.CommandKind.TheVariants as commands

-- so many choosers are there where more are
pub fewer_choosers : (many more : ℕ) (kind : RuleKind) (rules : List Rule) → many ≤ more → HasChoosers more (kinds_of rules) kind → HasChoosers many (kinds_of rules) kind
fewer_choosers many more kind rules low there = omega (arith, low, there)

-- the lines of a true core are lines
pub lines_in : (v : PinnedView) (said : Explained) (count : ℕ) → v.lines ≡ count → IsTrueExplained v said → AreLines count said
lines_in v (explained.Core core) count same says = subst (λ n. All (λ (kept : Kept). kept.index < n) core) same says.inside
lines_in v explained.MapExists count same says = tt
lines_in v explained.Spent count same says = tt

-- the answer to what is said by the first rule is that to what is asked for
pub explained_answers : (rules : List Rule) (asked : RequestView) (v : PinnedView) (numbers : List ℕ) (first : Rule) (said : Explained) (result : Result Answer NoMemory) → first_rule asked.rule rules ≡ Some first
    → said ≡ explanation_of v first asked.budget (words_of_seed asked.seed) → IfOk result (λ answer. answer_view answer ≡ answer_to asked numbers said)
    → IfOk result (λ answer. explain_answer asked numbers (asked_explanation (first_rule asked.rule rules) asked v) ≡ Some (answer_view answer))
explained_answers rules asked v numbers first said (Err cause) is exact told = tt
explained_answers rules asked v numbers first said (Ok answer) is exact told =
    ap (λ (o : Option Rule). explain_answer asked numbers (asked_explanation o asked v)) is
    ∙ ap (λ (e : Explained). Some (answer_to asked numbers e)) (sym exact) ∙ ap Some (sym told)

-- a request in its ranges asks for lines to be left out
pub explain_asked : (asked : RequestView) → IsInRange asked → asked.command ≡ commands.Explain → IsExplainAsked asked
explain_asked asked within is = record {
  plain = plain_kind asked.rule (within.run.unranked (ap is_rankable is));
}
