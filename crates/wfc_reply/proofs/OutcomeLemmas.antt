-- The end of a run, and its status.
use Rattle.std.proofs.Common.{List, None, Option, Some, ap, refl, ℕ, ◌∙◌, ◌≡◌}
use Rattle.wfc_choose.specs.Pick.{Rule}
use Rattle.wfc_choose.specs.declared.RuleKind.{RuleKind}
use Rattle.wfc_problem.specs.Network.{Network}
use Rattle.wfc_reply.specs.Choosers.{first_rule}
use Rattle.wfc_reply.specs.Outcomes.{outcome_status, refute_status, refute_verdict, verdict_of}
use Rattle.wfc_reply.specs.Reply.{verdict_status}
use Rattle.wfc_reply.specs.RunEnds.{end_by, end_of}
use Rattle.wfc_runs.specs.Runs.{IsRan}
use Rattle.wfc_runs.specs.declared.runs.Ran.{Ran}
use Rattle.wfc_runs.specs.Words.{words_of_seed}
use Rattle.wfc_search.specs.Run.{State, outcome_of}
use Rattle.wfc_search.specs.declared.Outcome.{Outcome}
use Rattle.wfc_search.specs.declared.Outcome.TheVariants as outcome

pub verdict_outcome : (budget : ℕ) (o : Outcome) → verdict_status (verdict_of budget o) ≡ outcome_status o
verdict_outcome budget outcome.Map = refl
verdict_outcome budget outcome.NoMap = refl
verdict_outcome budget outcome.Spent = refl

-- the rule by which a run went
pub ran_by : (rules : List Rule) (kind : RuleKind) (P : Network) (budget seed : ℕ) (end : Outcome × State) → end_of rules kind P budget seed ≡ Some end → (rule : Rule) × (outcome_of P rule budget (words_of_seed seed) ≡ Some end)
ran_by rules kind P budget seed end is = by_rule (first_rule kind rules) is
  where
    by_rule : (found : Option Rule) → end_by found P budget seed ≡ Some end → (rule : Rule) × (outcome_of P rule budget (words_of_seed seed) ≡ Some end)
    by_rule (Some rule) is = (rule, is)
    by_rule None is = absurd (cc (is))

-- ---- the claims

pub refuted_status : (budget : ℕ) (o : Outcome) → verdict_status (refute_verdict budget o) ≡ refute_status o
refuted_status budget outcome.Map = refl
refuted_status budget outcome.NoMap = refl
refuted_status budget outcome.Spent = refl

-- the end of a run by the first rule of a kind
pub chosen_end : (rules : List Rule) (kind : RuleKind) (P : Network) (rule : Rule) (budget seed : ℕ) (ran : Ran) → first_rule kind rules ≡ Some rule → (is : IsRan P rule budget seed ran)
    → end_of rules kind P budget seed ≡ Some (is.outcome, is.state)
chosen_end rules kind P rule budget seed ran found is = ap (λ o. end_by o P budget seed) found ∙ is.ends
