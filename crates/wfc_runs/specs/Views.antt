-- A search over the engine of counters, told what its chooser is.
use Rattle.std.specs.Prelude.{ℕ}
use Rattle.rand_core.specs.Stream.{Stream}
use Rattle.wfc_choose.specs.Told.{Told}
use Rattle.wfc_domains.specs.Store.{StoreView}
use Rattle.wfc_search.specs.Search.{IsEnd, SearchView}
use Rattle.wfc_search.specs.Shown.{search_seen}
use Rattle.wfc_search.specs.declared.Outcome.{Outcome}
use Rattle.wfc_search.specs.declared.search.Search.{Search}
use Rattle.wfc_runs.specs.Words.{words_of_seed}

-- a search over the engine of counters as contracts see it: `told` says what any chooser is
abbrev pub search_view : {D : Type 0} {V : D → Type 0} → ((v : D) × V v → Told)
    → Search StoreView D V → SearchView
search_view told it = search_seen (λ store. store) told it

-- from one search, with the words of a seed, the run has this end at the other
abbrev pub IsSeededEnd : {D : Type 0} {V : D → Type 0} → ((v : D) × V v → Told)
    → Search StoreView D V → ℕ → Outcome → Search StoreView D V → Type 0
IsSeededEnd told old seed outcome new =
    (left : Stream)
    × IsEnd (search_view told old) (words_of_seed seed) outcome (search_view told new) left
