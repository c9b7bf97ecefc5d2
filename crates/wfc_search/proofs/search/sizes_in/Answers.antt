use Rattle.std.proofs.Common.{◌≡◌, ◌<◌, ◌++◌, ◌∷◌, [], List, ℕ, sym, ap, ◌∙◌, length, take, get_or, arith}
use Rattle.std.proofs.lemmas.List.{take_more, take_all}
use Rattle.wfc_domains.specs.Store.{StoreView, left_of}
use Rattle.wfc_problem.specs.Sizes.{sizes_of}
use Rattle.wfc_problem.proofs.CallerLemmas.{length-sizes_of, sizes_of_at}
use Rattle.wfc_search.proofs.Stores.{size_seen}
use Rattle.wfc_search.proofs.search.sizes_in.Goals as goal

pub loop-cell-preserved : goal.loop-cell-preserved
loop-cell-preserved g c =
    let store : StoreView = g.S.Store.view c.args.store.now in
    let all : List ℕ = sizes_of store.problem (left_of store) in
    let inside : c.loop-cell.cell < length all = omega (arith, length-sizes_of store.problem (left_of store), c.requires.cells) in
    let size : c.size.result ≡ get_or all c.loop-cell.cell 0 =
    c.size.ensures.value ∙ size_seen store c.domains-domains.result.now c.loop-cell.cell c.domains-domains.ensures.value c.domains-domains.ensures.stands
    ∙ sym (sizes_of_at store.problem (left_of store) c.loop-cell.cell 0 (omega (arith, c.requires.cells))) in (
      c.push_reserved.ensures.items ∙ ap (λ (xs : List ℕ). xs ++ c.size.result ∷ []) c.loop-cell.invariant.0
          ∙ ap (λ (n : ℕ). take c.loop-cell.cell all ++ n ∷ []) size
          ∙ sym (take_more all c.loop-cell.cell 0 inside),
      omega (arith, c.push_reserved.ensures.len, c.loop-cell.invariant.1),
      c.push_reserved.ensures.capacity ∙ c.loop-cell.invariant.2,
    )

pub returns : goal.returns
returns g c =
    let store : StoreView = g.S.Store.view c.args.store.now in
    record {
      sound = c.domains-domains.ensures.sound;
      ok = c.loop-cell.invariant.0 ∙ take_all c.loop-cell.cell (sizes_of store.problem (left_of store)) (omega (arith, length-sizes_of store.problem (left_of store), c.requires.cells));
    }
