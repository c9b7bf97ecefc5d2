use Rattle.std.proofs.Common.{List, ℕ}
use Rattle.wfc_log.specs.declared.Removal.{Removal}
use Rattle.wfc_search.proofs.Lines.{cut_off_loss, on_err_of}
use Rattle.wfc_search.proofs.telling.tell_removals.Goals as goal

pub returns-in_err-tell_loss-clause-failed : goal.returns-in_err-tell_loss-clause-failed
returns-in_err-tell_loss-clause-failed g c =
    let rs : List Removal = c.args.removals.now in
    let i : ℕ = c.loop-removal.removal-index in
    on_err_of _ (cut_off_loss rs i _ _ _ _ c.loop-removal-test.true c.loss.ensures.value c.loop-removal.invariant.told c.in_err-tell_loss.ensures.failed)
