-- The end of a run by the first rule of a kind.
use Rattle.std.specs.Prelude.{List, None, Option, Some, ℕ}
use Rattle.wfc_choose.specs.Pick.{Rule}
use Rattle.wfc_choose.specs.declared.RuleKind.{RuleKind}
use Rattle.wfc_problem.specs.Network.{Network}
use Rattle.wfc_reply.specs.Choosers.{first_rule}
use Rattle.wfc_runs.specs.Words.{words_of_seed}
use Rattle.wfc_search.specs.Run.{State, outcome_of}
use Rattle.wfc_search.specs.declared.Outcome.{Outcome}

-- the end of a run by a rule, if there is one
abbrev pub end_by : Option Rule → Network → ℕ → ℕ → Option (Outcome × State)
end_by None P budget seed = None
end_by (Some rule) P budget seed = outcome_of P rule budget (words_of_seed seed)

-- the end of the run of a problem by the first rule of a kind, with the words that a seed gives
abbrev pub end_of : List Rule → RuleKind → Network → ℕ → ℕ → Option (Outcome × State)
end_of rules kind P budget seed = end_by (first_rule kind rules) P budget seed
