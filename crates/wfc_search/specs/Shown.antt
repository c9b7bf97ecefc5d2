-- A search as contracts see it.
use Rattle.std.specs.Prelude.{Result}
use Rattle.rand_core.specs.Stream.{Stream}
use Rattle.wfc_choose.specs.Told.{Told}
use Rattle.wfc_domains.specs.Store.{StoreView}
use Rattle.wfc_proof.specs.declared.JournalFault.{JournalFault}
use Rattle.wfc_search.specs.Search.{SearchView, IsTurn, Turns, Ends}
use Rattle.wfc_search.specs.declared.Outcome.{Outcome}
use Rattle.wfc_search.specs.declared.Turn.{Turn}
use Rattle.wfc_search.specs.declared.search.Search.{Search}

-- a search, told how its store is seen and what its chooser is
abbrev pub view_of_search : {S D : Type 0} {V : D → Type 0} → (S → StoreView) → Search S D V → Told → SearchView
view_of_search view it chooser = record { problem = it.problem.now; store = view it.store; chooser = chooser; course = it.course }

-- a search, told how its store and any chooser are seen
abbrev pub search_seen : {S D : Type 0} {V : D → Type 0} → (S → StoreView) → ((v : D) × V v → Told) → Search S D V → SearchView
search_seen view told it = view_of_search view it (told (it.chooser.vtable, it.chooser.value))

-- from one search, told what its chooser is and with these words to come, the run makes this turn to another, with those
-- that are left
abbrev pub IsTurnBetween : {S D : Type 0} {V : D → Type 0} → (S → StoreView)
    → Search S D V → Told → Stream → Turn → Search S D V → Told → Stream → Type 0
IsTurnBetween view old chooser words turn new other left =
    IsTurn (view_of_search view old chooser) words turn (view_of_search view new other) left

-- what is answered, if no journal failed, is the turn that the run makes between them
abbrev pub TurnsBetween : {S D : Type 0} {V : D → Type 0} → (S → StoreView)
    → Search S D V → Told → Stream → Result Turn JournalFault → Search S D V → Told → Stream → Type 0
TurnsBetween view old chooser words answer new other left =
    Turns (view_of_search view old chooser) words answer (view_of_search view new other) left

-- what is answered, if no journal failed, is the end that the run has between them
abbrev pub EndsBetween : {S D : Type 0} {V : D → Type 0} → (S → StoreView)
    → Search S D V → Told → Stream → Result Outcome JournalFault → Search S D V → Told → Stream → Type 0
EndsBetween view old chooser words answer new other left =
    Ends (view_of_search view old chooser) words answer (view_of_search view new other) left
