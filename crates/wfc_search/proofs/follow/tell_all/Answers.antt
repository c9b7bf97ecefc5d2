use Rattle.std.proofs.Common.{◌<◌, ◌∙◌, ap, arith, refl}
use Rattle.wfc_log.specs.Domains.{Flags}
use Rattle.wfc_domains.specs.Store.{StoreView, left_of}
use Rattle.wfc_search.proofs.Stores.{size_seen}
use Rattle.wfc_search.proofs.Told.{first_told_more, first_told_all}
use Rattle.wfc_search.proofs.follow.tell_all.Goals as goal

pub loop-cell-init : goal.loop-cell-init
loop-cell-init g c = record {
  same_rule = refl;
  cells = c.requires.cells;
  told = λ k l. absurd (omega (arith, l));
}

pub resize-requires-clause-cell_in : goal.resize-requires-clause-cell_in
resize-requires-clause-cell_in g c =
    let all = c.cells-cell-end.ensures.value ∙ ap (λ (D : Flags). D.cells) c.domains-domains.ensures.value in
    omega (arith, all, c.loop-cell-test.true, c.loop-cell.invariant.cells)

pub loop-cell-preserved : goal.loop-cell-preserved
loop-cell-preserved g c =
    let store : StoreView = g.S.Store.view c.args.store.now in
    let all = c.cells-cell-end.ensures.value ∙ ap (λ (D : Flags). D.cells) c.domains-domains.ensures.value in
    let inside : c.loop-cell.cell < store.problem.cells = omega (arith, all, c.loop-cell-test.true) in
    let size = c.size.ensures.value ∙ size_seen store _ _ c.domains-domains.ensures.value c.domains-domains.ensures.stands in
    first_told_more store.problem (left_of store) c.loop-cell.cell _ _ _ c.size.result c.loop-cell.invariant inside size c.resize.ensures.resized

pub returns : goal.returns
returns g c =
    let store : StoreView = g.S.Store.view c.args.store.now in
    let all = c.cells-cell-end.ensures.value ∙ ap (λ (D : Flags). D.cells) c.domains-domains.ensures.value in
    record { told = first_told_all store.problem (left_of store) c.loop-cell.cell _ _ c.loop-cell.invariant (omega (arith, all, c.loop-cell-test.false)) }
