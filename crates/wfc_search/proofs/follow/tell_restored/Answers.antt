use Rattle.std.proofs.Common.{◌≡◌, ◌-◌, refl, sym, ◌∙◌, ap, arith}
use Rattle.std.proofs.Math.Seq.{take-length}
use Rattle.wfc_domains.specs.Removals.{without}
use Rattle.wfc_domains.specs.Store.{StoreView, before_of, left_of}
use Rattle.wfc_search.proofs.Removals.{no_removal}
use Rattle.wfc_search.proofs.Stores.{left_added, removal_step, values_few}
use Rattle.wfc_search.proofs.Told.{told_last, all_told, told_back, told_wait}
use Rattle.wfc_search.proofs.follow.tell_restored.Goals as goal

pub loop-at-init : goal.loop-at-init
loop-at-init g c =
    let store : StoreView = g.S.Store.view c.args.store.now in
    record {
      within = omega arith;
      told = rw take-length (told_last store.problem (before_of store) (left_of store) _ _ (left_added store ∙ ap (without (before_of store)) (sym c.requires.added)) c.requires.sizes);
    }

pub resize-requires-clause-cell_in : goal.resize-requires-clause-cell_in
resize-requires-clause-cell_in g c =
    let step = removal_step _ c.requires.sound _ c.requires.added (c.loop-at.at - 1) no_removal (omega arith) in
    omega (arith, step.cell_in, c.loop-at.invariant.told.cells)

pub resize-requires-clause-small : goal.resize-requires-clause-small
resize-requires-clause-small g c =
    let step = removal_step _ c.requires.sound _ c.requires.added (c.loop-at.at - 1) no_removal (omega arith) in
    omega (arith, step.few, values_few _ c.requires.sound, c.from.ensures)

pub loop-at-preserved-in-loop-at : goal.loop-at-preserved-in-loop-at
loop-at-preserved-in-loop-at g c =
    let step = removal_step _ c.requires.sound _ c.requires.added (c.loop-at.at - 1) no_removal (omega arith) in
    record {
      within = omega arith;
      told = told_back _ _ _ _ _ _ _ _ _ c.loop-at-test.true c.loop-at.invariant.within step c.loop-at.invariant.told (rw c.from.ensures at c.resize.ensures.resized);
    }

pub loop-at-preserved : goal.loop-at-preserved
loop-at-preserved g c = record {
  within = omega arith;
  told = told_wait _ _ _ _ _ _ no_removal (omega arith) c.loop-at.invariant.within c.loop-at.invariant.told c.if-added-at.false;
}

pub returns : goal.returns
returns g c =
    let none : c.loop-at.at ≡ 0 = omega arith in
    record { told = all_told _ _ _ _ _ c.loop-at.invariant.told (λ k. rw none refl) }
