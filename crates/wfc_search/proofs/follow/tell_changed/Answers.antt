use Rattle.std.proofs.Common.{sym, ◌∙◌, ap, arith}
use Rattle.wfc_log.specs.Domains.{Flags}
use Rattle.wfc_domains.specs.Removals.{without}
use Rattle.wfc_domains.specs.Store.{StoreView, before_of, left_of}
use Rattle.wfc_search.proofs.Removals.{no_removal, touches_past}
use Rattle.wfc_search.proofs.Stores.{left_added, removal_step, size_seen}
use Rattle.wfc_search.proofs.Told.{told_first, all_told, told_next, told_skip}
use Rattle.wfc_search.proofs.follow.tell_changed.Goals as goal
use Rattle.wfc_search.proofs.follow.tell_changed.Goals.{then-from-size, else-from-size}

pub loop-removal-init : goal.loop-removal-init
loop-removal-init g c =
    let store : StoreView = g.S.Store.view c.args.store.now in
    told_first store.problem (before_of store) (left_of store) _ _ (left_added store ∙ ap (without (before_of store)) (sym c.requires.added)) c.requires.sizes

pub size-size-requires : goal.size-size-requires
size-size-requires g c =
    let step = removal_step _ c.requires.sound _ c.requires.added c.loop-removal.removal-index no_removal c.loop-removal-test.true in
    record { cell_in = omega (arith, step.cell_in, ap (λ (D : Flags). D.cells) c.domains-domains.ensures.value) }

pub resize-requires-clause-cell_in : goal.resize-requires-clause-cell_in
resize-requires-clause-cell_in g c =
    let step = removal_step _ c.requires.sound _ c.requires.added c.loop-removal.removal-index no_removal c.loop-removal-test.true in
    omega (arith, step.cell_in, c.loop-removal.invariant.cells)

pub loop-removal-preserved : goal.loop-removal-preserved
loop-removal-preserved g c =
    let store : StoreView = g.S.Store.view c.args.store.now in
    let step = removal_step _ c.requires.sound _ c.requires.added _ _ c.loop-removal-test.true in
    let size = c.size-size.ensures.value ∙ size_seen store _ _ c.domains-domains.ensures.value c.domains-domains.ensures.stands in
    elim c.if-from-size.branch [
      | then-from-size w ↦ rw w.chooser-is (told_next _ _ _ _ _ _ _ _ _ _ c.loop-removal-test.true step c.loop-removal.invariant size w.resize.ensures.resized)
      | else-from-size w ↦ rw w.chooser-is (told_skip _ _ _ _ _ _ _ _ _ c.loop-removal-test.true step c.loop-removal.invariant size (λ e. w.if-from-size.false (c.from.ensures ∙ e)))
    ]

pub returns : goal.returns
returns g c = record {
  told = all_told _ _ _ _ _ c.loop-removal.invariant (λ k. touches_past _ _ k c.loop-removal-test.false);
}
