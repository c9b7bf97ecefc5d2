use Rattle.std.proofs.Common.{◌<◌, List, length, arith}
use Rattle.std.proofs.lemmas.Option.{slice_get-get_or}
use Rattle.wfc_domains.specs.Store.{added_of}
use Rattle.wfc_log.specs.declared.Removal.{Removal}
use Rattle.wfc_search.proofs.Lines.{told_loss, cut_off_loss, on_err_of}
use Rattle.wfc_search.proofs.Removals.{no_removal}
use Rattle.wfc_search.proofs.telling.tell_added.Goals as goal

pub loop-index-preserved : goal.loop-index-preserved
loop-index-preserved g c =
    let rs : List Removal = added_of (g.S.Store.view c.args.store.now) in
    let inside : c.loop-index.index < length rs = omega (arith, c.loop-index-test.true, c.added_len-index-end.ensures.value) in
    record {
      told = told_loss rs c.loop-index.index c.added_at.result _ _ _ inside (c.added_at.ensures.value _ (slice_get-get_or rs c.loop-index.index no_removal inside))
          c.loop-index.invariant.told c.in_ok-tell_loss.ensures.ok;
      going = c.requires.going;
    }

pub returns-in_err-tell_loss-clause-failed : goal.returns-in_err-tell_loss-clause-failed
returns-in_err-tell_loss-clause-failed g c =
    let rs : List Removal = added_of (g.S.Store.view c.args.store.now) in
    let inside : c.loop-index.index < length rs = omega (arith, c.loop-index-test.true, c.added_len-index-end.ensures.value) in
    on_err_of _ (cut_off_loss rs c.loop-index.index c.added_at.result _ _ _ inside (c.added_at.ensures.value _ (slice_get-get_or rs c.loop-index.index no_removal inside))
    c.loop-index.invariant.told c.in_err-tell_loss.ensures.failed)
