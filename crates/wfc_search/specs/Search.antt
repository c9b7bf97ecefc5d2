-- What holds of a search between its turns, and what a turn does to it.
use Rattle.std.specs.Prelude.{◌≡◌, ℕ, ◌+◌, ◌<◌, ◌≤◌, false, List, length, Option, Some, None, Result, IfOk}
use Rattle.std.specs.Option.{ForSome}
use Rattle.rand_core.specs.Stream.{Stream}
use Rattle.wfc_choose.specs.Pick.{Rule}
use Rattle.wfc_choose.specs.Told.{Told}
use Rattle.wfc_domains.specs.Store.{StoreView}
use Rattle.wfc_problem.specs.Assignment.{IsLegalAssignment}
use Rattle.wfc_problem.specs.Domains.{HasOnly}
use Rattle.wfc_problem.specs.Network.{Network}
use Rattle.wfc_problem.specs.Rounds.{greatest, depth_of}
use Rattle.wfc_problem.specs.Sizes.{first_values}
use Rattle.wfc_problem.specs.declared.Literal.{Literal}
use Rattle.wfc_proof.specs.declared.JournalFault.{JournalFault}
use Rattle.wfc_search.specs.Between.{IsBetween}
use Rattle.wfc_search.specs.Follow.{Keeps}
use Rattle.wfc_search.specs.Run.{State, turn_of, end_from}
use Rattle.wfc_search.specs.Volume.{volume_of}
use Rattle.wfc_search.specs.declared.course.Course.{Course}
use Rattle.wfc_search.specs.declared.Outcome.{Outcome}
use Rattle.wfc_search.specs.declared.Outcome.TheVariants.{Map, NoMap, Spent}
use Rattle.wfc_search.specs.declared.Turn.{Turn}
use Rattle.wfc_search.specs.declared.Turn.TheVariants.{Chose, Retracted, Ended}

-- the state of the run that a search is at, after so many draws, with these words to come
abbrev pub state_at : StoreView → Course → ℕ → Stream → State
state_at store course draws words = record { standing = store.standing; retractions = course.retractions; draws = draws; words = words }

-- how many draws there are after a turn
abbrev pub draws_after : Turn → ℕ → ℕ
draws_after (Chose cell value) draws = draws + 1
draws_after (Retracted cell value) draws = draws
draws_after (Ended outcome) draws = draws

-- the outcome that there is after a turn
abbrev pub outcome_after : Turn → Option Outcome
outcome_after (Chose cell value) = None
outcome_after (Retracted cell value) = None
outcome_after (Ended outcome) = Some outcome

-- from the state of a search the run makes this turn, to the state of the search after it
abbrev pub IsTurnFrom : Network → Rule → StoreView → Course → Stream → Turn → StoreView → Course → Stream → Type 0
IsTurnFrom P rule old course words turn new next left =
    (draws : ℕ) → turn_of P rule course.budget (state_at old course draws words)
    ≡ (turn, state_at new next (draws_after turn draws) left)

-- the first value of each cell in the greatest domains
abbrev pub assignment_of : Network → List Literal → List ℕ
assignment_of P literals = first_values P (greatest P literals)

-- what an outcome says: each cell has one value, and these are a legal assignment; there is none;
-- the budget is below the volume
abbrev pub IsTrueEnd : Network → ℕ → List Literal → Outcome → Type 0
IsTrueEnd P budget literals Map =
    HasOnly P (greatest P literals) (assignment_of P literals)
    × IsLegalAssignment P (assignment_of P literals)
IsTrueEnd P budget literals NoMap = (a : List ℕ) → IsLegalAssignment P a → ⊥
IsTrueEnd P budget literals Spent = budget < volume_of P

-- what holds of a search that no journal failed: its store is of the problem, the chooser has the sizes of the store's
-- domains, what stands and the retractions are those of a run, there is room for all literals, and its outcome is true
pub record HoldsBetween (P : Network) (store : StoreView) (chooser : Told) (course : Course) : Type 0 where
  pub problem : store.problem ≡ P
  pub keeps : Keeps store chooser
  pub between : IsBetween P course.budget store.standing course.retractions
  pub room : depth_of P ≤ length store.standing + store.spare
  pub outcome : ForSome course.outcome (IsTrueEnd P course.budget store.standing)

-- a search that has no outcome yet, and that no journal failed
pub record IsGoing (course : Course) : Type 0 where
  pub outcome : course.outcome ≡ None
  pub whole : course.broken ≡ false

-- what contracts see of a search: its problem, its store, its chooser, and how far it has come
pub record SearchView : Type 0 where
  pub problem : Network
  pub store : StoreView
  pub chooser : Told
  pub course : Course

-- what an outcome says is true of a search
abbrev pub SaysTrue : SearchView → Outcome → Type 0
SaysTrue s outcome = IsTrueEnd s.problem s.course.budget s.store.standing outcome

-- what holds of a search between its turns
abbrev pub IsReady : SearchView → Type 0
IsReady s = HoldsBetween s.problem s.store s.chooser s.course

-- from one search, with these words to come, the run makes this turn to the other, with those that are left
abbrev pub IsTurn : SearchView → Stream → Turn → SearchView → Stream → Type 0
IsTurn old words turn new left =
    IsTurnFrom old.problem old.chooser.rule old.store old.course words turn
    new.store new.course left

-- so, whatever words are to come, and it takes none
abbrev pub IsWordless : SearchView → Turn → SearchView → Type 0
IsWordless old turn new = (words : Stream) → IsTurn old words turn new words

-- one search is of the same problem, rule and course as another, but for the literals and the retractions
pub record IsOnward (old new : SearchView) : Type 0 where
  pub problem : new.problem ≡ old.problem
  pub rule : new.chooser.rule ≡ old.chooser.rule
  pub course : new.course ≡ record old.course { retractions = new.course.retractions }

-- from one search, with these words to come, the run has this end at the other, with those that are left
abbrev pub IsEnd : SearchView → Stream → Outcome → SearchView → Stream → Type 0
IsEnd old words outcome new left =
    (draws : ℕ)
    → (more : ℕ)
    × (end_from old.problem old.chooser.rule old.course.budget (state_at old.store old.course draws words)
    ≡ Some (outcome, state_at new.store new.course more left))

-- what is answered, if no journal failed, is the turn that the run makes
abbrev pub Turns : SearchView → Stream → Result Turn JournalFault → SearchView → Stream → Type 0
Turns old words answer new left = IfOk answer (λ turn. IsTurn old words turn new left)

-- what is answered, if no journal failed, is the end that the run has
abbrev pub Ends : SearchView → Stream → Result Outcome JournalFault → SearchView → Stream → Type 0
Ends old words answer new left = IfOk answer (λ outcome. IsEnd old words outcome new left)
