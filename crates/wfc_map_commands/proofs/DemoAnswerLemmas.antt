-- What the run of `demo` came to is its answer.
use Rattle.std.proofs.Common.{List, Some, ap, length, sym, true, ℕ, ◌∙◌, ◌≡◌}
use Rattle.wfc_choose.specs.Pick.{Rule}
use Rattle.wfc_choose.specs.declared.RuleKind.{RuleKind}
use Rattle.wfc_map_commands.specs.DemoAnswer.{demo_answer, demo_budget, demo_text, demo_verdict}
use Rattle.wfc_pattern.specs.Patterns.{PatternsView}
use Rattle.wfc_problem.specs.Network.{Network}
use Rattle.wfc_reply.proofs.CallerLemmas.{chosen_end}
use Rattle.wfc_reply.specs.Choosers.{first_rule}
use Rattle.wfc_reply.specs.Reply.{Answered, verdict_status}
use Rattle.wfc_runs.specs.Runs.{HoldsOutcome, IsRan}
use Rattle.wfc_reply.specs.RunEnds.{end_of}
use Rattle.wfc_runs.specs.declared.runs.RunEnd.{RunEnd}
use Rattle.wfc_runs.specs.declared.runs.RunEnd.TheVariants as held
use Rattle.wfc_runs.specs.declared.runs.Ran.{Ran}
use Rattle.wfc_search.specs.declared.Outcome.{Outcome}
use Rattle.wfc_search.specs.declared.Outcome.TheVariants as outcome

-- ---- the answer of `demo`

pub demo_ran : (rules : List Rule) (kind : RuleKind) (patterns : PatternsView) (P : Network) (rule : Rule) (seed : ℕ) (ran : Ran) (answer : Answered)
    → first_rule kind rules ≡ Some rule → IsRan P rule demo_budget seed ran → answer.verdict ≡ demo_verdict ran.end
    → answer ≡ record { verdict = answer.verdict; text = Some (demo_text (length patterns.windows) P.cells ran.retractions (verdict_status answer.verdict)); whole = true }
    → demo_answer patterns P (end_of rules kind P demo_budget seed) ≡ Some answer
demo_ran rules kind patterns P rule seed ran answer found is verdict_is answers =
    ap (demo_answer patterns P) (chosen_end rules kind P rule demo_budget seed ran found is) ∙ by_end is.outcome ran.end is.held verdict_is ∙ ap Some (sym answers)
  where
    text : ℕ → ℕ → List ℕ
    text retractions status = demo_text (length patterns.windows) P.cells retractions status

    by_end : (o : Outcome) (end : RunEnd) → HoldsOutcome P is.state.standing o end → answer.verdict ≡ demo_verdict end
        → demo_answer patterns P (Some (o, is.state)) ≡ Some (record { verdict = answer.verdict; text = Some (text ran.retractions (verdict_status answer.verdict)); whole = true })
    by_end outcome.Map (held.Map assignment) same v = λ i. Some (record { verdict = sym v i; text = Some (text (sym is.retractions i) (verdict_status (sym v i))); whole = true })
    by_end outcome.NoMap held.NoMap same v = λ i. Some (record { verdict = sym v i; text = Some (text (sym is.retractions i) (verdict_status (sym v i))); whole = true })
    by_end outcome.Spent held.Spent same v = λ i. Some (record { verdict = sym v i; text = Some (text (sym is.retractions i) (verdict_status (sym v i))); whole = true })
    by_end outcome.Map held.NoMap same v = absurd same
    by_end outcome.Map held.Spent same v = absurd same
    by_end outcome.NoMap (held.Map a) same v = absurd same
    by_end outcome.NoMap held.Spent same v = absurd same
    by_end outcome.Spent (held.Map a) same v = absurd same
    by_end outcome.Spent held.NoMap same v = absurd same
