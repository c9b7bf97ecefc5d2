use Rattle.wfc_log.proofs.SizeLemmas.{logged-split}
use Rattle.wfc_log.proofs.trail.Trail.reopen.Goals as goal

pub move_to-requires-clause-logged : goal.move_to-requires-clause-logged
move_to-requires-clause-logged c =
    let a = c.self.inside in
    (logged-split a.older.extent a.older.extent.sizes a.older.removals a.list.items c.self.invariant.logged).1
