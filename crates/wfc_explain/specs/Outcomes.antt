-- The outcome of the run of the lines that are kept.
use Rattle.std.specs.Prelude.{ℕ, Bool, List, Option, None, Some}
use Rattle.rand_core.specs.Stream.{Stream}
use Rattle.wfc_choose.specs.Pick.{Rule}
use Rattle.wfc_search.specs.Run.{State, outcome_of}
use Rattle.wfc_search.specs.declared.Outcome.{Outcome}
use Rattle.wfc_search.specs.declared.Outcome.TheVariants.{Spent}
use Rattle.wfc_explain.specs.Pinned.{PinnedView}

-- the outcome of a run by its end; each run of a problem has one
abbrev pub outcome_at : Option (Outcome × State) → Outcome
outcome_at None = Spent
outcome_at (Some (outcome, s)) = outcome

-- the outcome of the run, with these words, of the problem of the lines that are kept
abbrev pub outcome_with : PinnedView → Rule → ℕ → Stream → List Bool → Outcome
outcome_with v rule budget words keep =
    outcome_at (outcome_of (v.problem_of keep) rule budget words)
