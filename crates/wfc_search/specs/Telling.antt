-- The lines that a search tells: those of the opening, and those of each turn.
use Rattle.std.specs.Prelude.{◌≡◌, ℕ, List, [], ◌∷◌, ◌++◌, ◌==◌, ◌⊎◌, length, if◌then◌else◌, Result, OnErr}
use Rattle.std.specs.List.{flat_map}
use Rattle.wfc_choose.specs.Pick.{Rule}
use Rattle.wfc_domains.specs.Store.{StoreView, IsSound, added_of}
use Rattle.wfc_log.specs.declared.Cause.{Cause}
use Rattle.wfc_log.specs.declared.Cause.TheVariants.{Assumed, Arc}
use Rattle.wfc_log.specs.declared.Removal.{Removal}
use Rattle.wfc_log.specs.declared.Verdict.{Verdict}
use Rattle.wfc_log.specs.declared.Verdict.TheVariants.{Alive, Dead}
use Rattle.wfc_problem.specs.Network.{Network}
use Rattle.wfc_proof.specs.Journal.{JournalView, after_lines, IsCutOff}
use Rattle.wfc_proof.specs.declared.JournalFault.{JournalFault}
use Rattle.wfc_proof.specs.declared.Line.{Line}
use Rattle.wfc_proof.specs.declared.Line.TheVariants.{Remove, Try, Empty, End, Found, Out}
use Rattle.rand_core.specs.Stream.{Stream}
use Rattle.wfc_search.specs.Run.{State, turn_of, LeadsTo}
use Rattle.wfc_search.specs.Search.{SearchView, state_at}
use Rattle.wfc_search.specs.declared.course.Course.{Course}
use Rattle.wfc_search.specs.declared.Outcome.{Outcome}
use Rattle.wfc_search.specs.declared.Outcome.TheVariants.{Map, NoMap, Spent}
use Rattle.wfc_search.specs.declared.Turn.{Turn}
use Rattle.wfc_search.specs.declared.Turn.TheVariants.{Chose, Retracted, Ended}

-- a removal of this cause as lines: one for want of support is told, and what a literal cuts isn't
abbrev pub lines_by : ℕ → ℕ → Cause → List Line
lines_by cell value Assumed = []
lines_by cell value (Arc dir) = Remove cell value dir ∷ []

-- the lines of removals, in their order
abbrev pub removal_lines : List Removal → List Line
removal_lines removals = flat_map (λ (r : Removal). lines_by r.cell r.value r.cause) removals

-- the line of the cell that is known to be empty, if there is one
abbrev pub empty_lines : Verdict → List Line
empty_lines Alive = []
empty_lines (Dead cell) = Empty cell ∷ []

-- the lines of a store's last level
abbrev pub level_lines : StoreView → List Line
level_lines store = removal_lines (added_of store) ++ empty_lines store.verdict

-- before the first turn, which is the one at which no literal stands, those of the opening
abbrev pub opening_lines : StoreView → List Line
opening_lines store = if length store.standing == 0 then level_lines store else []

-- the line of an end
abbrev pub end_line : Outcome → Line
end_line Map = Found
end_line NoMap = End
end_line Spent = Out

-- the lines of a turn that leaves this store: of a choice its value and its level, of a retraction
-- the level of what is ruled out, of an end the end
abbrev pub turn_lines : Turn → StoreView → List Line
turn_lines (Chose cell value) store = Try cell value ∷ level_lines store
turn_lines (Retracted cell value) store = level_lines store
turn_lines (Ended outcome) store = end_line outcome ∷ []

-- the store is one of the problem, in which the literals of the state stand
pub record IsStoreAt (P : Network) (s : State) (store : StoreView) : Type 0 where
  pub problem : store.problem ≡ P
  pub standing : store.standing ≡ s.standing
  pub sound : IsSound store

-- a turn from a state was told that leaves this store, from the opening of the store before it on
abbrev pub turn_told : Network → Rule → ℕ → State → StoreView → StoreView → List Line
turn_told P rule budget s before store = opening_lines before ++ turn_lines (turn_of P rule budget s).0 store

-- the lines of the opening were cut off, or those of the turn from this state, with the store that it left
abbrev pub IsTurnCutOff : Network → Rule → ℕ → State → StoreView → StoreView → JournalView → JournalView → Type 0
IsTurnCutOff P rule budget s before store old new =
    IsCutOff old new (opening_lines before)
    ⊎ (IsStoreAt P (turn_of P rule budget s).1 store × IsCutOff old new (turn_told P rule budget s before store))

-- so at the state of a search, after any number of draws
abbrev pub IsCutOffFrom : Network → Rule → StoreView → Course → Stream → StoreView → JournalView → JournalView → Type 0
IsCutOffFrom P rule before course words store old new =
    (draws : ℕ) → IsTurnCutOff P rule course.budget (state_at before course draws words) before store old new

-- where a journal failed, a front of the lines of a search's next turn was told, up to one that was
-- refused; the turn left this store
abbrev pub StepFails : Result Turn JournalFault → SearchView → Stream → StoreView → JournalView → JournalView → Type 0
StepFails answer s words store old new =
    OnErr answer (IsCutOffFrom s.problem s.chooser.rule s.store s.course words store old new)

-- after the lines of the opening, if it is the first turn, a journal was told those of the turn that left this store
abbrev pub IsStepTold : StoreView → Turn → StoreView → JournalView → JournalView → Type 0
IsStepTold before turn store old new = new ≡ after_lines old (opening_lines before ++ turn_lines turn store)

-- from one state the run leads to another by turns that leave these stores, and that tell these lines
abbrev pub TellsTo : Network → Rule → ℕ → State → List StoreView → State → List Line → Type 0
TellsTo P rule budget s [] t lines = (s ≡ t) × (lines ≡ [])
TellsTo P rule budget s (store ∷ stores) t lines =
    (next : State) × LeadsTo (turn_of P rule budget s) next × IsStoreAt P next store
    × (rest : List Line) × TellsTo P rule budget next stores t rest
    × (lines ≡ turn_lines (turn_of P rule budget s).0 store ++ rest)

-- from a state the run leads to its end, and tells these lines on the way, from the opening of the store at first on
pub record TellsRun (P : Network) (rule : Rule) (budget : ℕ) (s : State) (first : StoreView)
    (outcome : Outcome) (lines : List Line) : Type 0 where
  pub stores : List StoreView
  pub last : State
  pub before : List Line
  pub turns : TellsTo P rule budget s stores last before
  pub ended : turn_of P rule budget last ≡ (Ended outcome, last)
  pub lines_are : lines ≡ opening_lines first ++ (before ++ end_line outcome ∷ [])

-- from a state the run leads to another, and the lines on the way were cut off, from the opening
-- on: those of the turns up
-- to there, or those with the turn from there, with the store that it left
pub record IsRunCutOff (P : Network) (rule : Rule) (budget : ℕ) (s : State) (first : StoreView)
    (old new : JournalView) : Type 0 where
  pub stores : List StoreView
  pub last : State
  pub before : List Line
  pub turns : TellsTo P rule budget s stores last before
  pub store : StoreView
  pub cut_off : IsCutOff old new (opening_lines first ++ before)
      ⊎ (IsStoreAt P (turn_of P rule budget last).1 store
      × IsCutOff old new (opening_lines first ++ (before ++ turn_lines (turn_of P rule budget last).0 store)))

-- from the state of a search a journal was told the lines of the run up to this end
abbrev pub IsRunTold : SearchView → Stream → Outcome → JournalView → JournalView → Type 0
IsRunTold s words outcome old new =
    (lines : List Line) × TellsRun s.problem s.chooser.rule s.course.budget
    (state_at s.store s.course 0 words) s.store outcome lines × (new ≡ after_lines old lines)

-- where a journal failed, a front of the lines of the run from the state of a search on was told,
-- up to one that was refused
abbrev pub RunFails : Result Outcome JournalFault → SearchView → Stream → JournalView → JournalView → Type 0
RunFails answer s words old new =
    OnErr answer (IsRunCutOff s.problem s.chooser.rule s.course.budget (state_at s.store s.course 0 words) s.store old new)
