use Rattle.std.proofs.Common.{◌≡◌, take}
use Rattle.std.specs.Prelude.{vec_len, vec_capacity}
use Rattle.wfc_domains.specs.Store.{StoreView, left_of}
use Rattle.wfc_problem.specs.Sizes.{sizes_of}
use Rattle.wfc_search.proofs.search.sizes_in.Given as goal

-- the sizes of the cells before this one, with room for those of all
abbrev pub invariant-loop-cell : goal.invariant-loop-cell
invariant-loop-cell g l =
    let store : StoreView = g.S.Store.view l.store in
    (l.sizes.items ≡ take l.cell (sizes_of store.problem (left_of store))) × (vec_len l.sizes ≡ l.cell) × (vec_capacity l.sizes ≡ l.cells)
