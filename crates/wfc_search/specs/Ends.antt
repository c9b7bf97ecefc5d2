-- How the run of a problem ends, as callers of a search say it.
use Rattle.std.specs.Prelude.{◌≡◌, ℕ, List, Some}
use Rattle.rand_core.specs.Stream.{Stream}
use Rattle.wfc_choose.specs.Pick.{Rule}
use Rattle.wfc_problem.specs.Network.{Network}
use Rattle.wfc_search.specs.Run.{State, outcome_of}
use Rattle.wfc_search.specs.Search.{assignment_of}
use Rattle.wfc_search.specs.declared.Outcome.{Outcome}
use Rattle.wfc_search.specs.declared.Outcome.TheVariants.{Map}

-- the run of this problem by this rule, with this budget and these words, has this end
abbrev pub EndsIn : Network → Rule → ℕ → Stream → Outcome → Type 0
EndsIn P rule budget words outcome = (s : State) × (outcome_of P rule budget words ≡ Some (outcome, s))

-- it ends in this map
abbrev pub EndsInMap : Network → Rule → ℕ → Stream → List ℕ → Type 0
EndsInMap P rule budget words a =
    (s : State) × (outcome_of P rule budget words ≡ Some (Map, s))
    × (a ≡ assignment_of P s.standing)
