-- What a run came to, as the code holds it.
use Rattle.std.specs.Prelude.{◌≡◌, ℕ, List, Some, ⊤}
use Rattle.wfc_choose.specs.Pick.{Rule}
use Rattle.wfc_problem.specs.Assignment.{IsLegalAssignment}
use Rattle.wfc_problem.specs.Network.{Network}
use Rattle.wfc_problem.specs.declared.Literal.{Literal}
use Rattle.wfc_search.specs.Ends.{EndsIn, EndsInMap}
use Rattle.wfc_search.specs.Run.{State, outcome_of}
use Rattle.wfc_search.specs.Search.{assignment_of}
use Rattle.wfc_search.specs.declared.Outcome.{Outcome}
use Rattle.wfc_search.specs.declared.Outcome.TheVariants as outcome
use Rattle.wfc_runs.specs.Words.{words_of_seed}
use Rattle.wfc_runs.specs.declared.runs.RunEnd.{RunEnd}
use Rattle.wfc_runs.specs.declared.runs.RunEnd.TheVariants.{Map, NoMap, Spent}
use Rattle.wfc_runs.specs.declared.runs.Ran.{Ran}

-- the outcome as the code holds it, with the assignment that is found where these literals stand
abbrev pub HoldsOutcome : Network → List Literal → Outcome → RunEnd → Type 0
HoldsOutcome P standing outcome.Map (Map assignment) = assignment.items ≡ assignment_of P standing
HoldsOutcome P standing outcome.NoMap NoMap = ⊤
HoldsOutcome P standing outcome.Spent Spent = ⊤
HoldsOutcome P standing _ _ = ⊥

-- the assignment that is held, if one is, is legal
abbrev pub IsLegalEnd : Network → RunEnd → Type 0
IsLegalEnd P (Map assignment) = IsLegalAssignment P assignment.items
IsLegalEnd P NoMap = ⊤
IsLegalEnd P Spent = ⊤

-- the run of the problem by this rule, with this budget and the words of this seed, came to this
pub record IsRan (P : Network) (rule : Rule) (budget seed : ℕ) (ran : Ran) : Type 0 where
  pub outcome : Outcome
  pub state : State
  pub ends : outcome_of P rule budget (words_of_seed seed) ≡ Some (outcome, state)
  pub held : HoldsOutcome P state.standing outcome ran.end
  pub retractions : ran.retractions ≡ state.retractions

-- the run of the problem by this rule, with this budget and the words of this seed, has this end
abbrev pub IsRunEnd : Network → Rule → ℕ → ℕ → RunEnd → Type 0
IsRunEnd P rule budget seed (Map assignment) =
    EndsInMap P rule budget (words_of_seed seed) assignment.items
IsRunEnd P rule budget seed NoMap = EndsIn P rule budget (words_of_seed seed) outcome.NoMap
IsRunEnd P rule budget seed Spent = EndsIn P rule budget (words_of_seed seed) outcome.Spent
