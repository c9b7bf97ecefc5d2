use Rattle.std.proofs.Common.{sym, subst, arith}
use Rattle.wfc_log.specs.declared.Cause.TheVariants.{Assumed}
use Rattle.wfc_log.specs.declared.Removal.{Removal}
use Rattle.wfc_log.specs.Log.{IsLogged, cells_of, sizes_after}
use Rattle.wfc_log.specs.Numbered.{Earlier}
use Rattle.std.specs.Prelude.{slice_index_or}
use Rattle.wfc_log.proofs.SizeLemmas.{logged-at}
use Rattle.wfc_log.proofs.older.with_all.Goals as goal

pub push-requires-clause-logged : goal.push-requires-clause-logged
push-requires-clause-logged c =
    let h = c.loop-removal.invariant in
    let e = c.args.older.extent in
    let xs = c.args.older.removals in
    let i = c.loop-removal.removal-index in
    let none : Removal = record { cell = 0; value = 0; before = 0; cause = Assumed } in
    let here = logged-at e e.sizes xs c.args.removals.now i none c.requires.logged (omega (arith, c.loop-removal-test.true)) in
    subst (λ (z : Earlier). IsLogged z.extent (sizes_after z.extent.sizes (cells_of z.removals)) (slice_index_or c.args.removals.now i none)) (sym h) here
