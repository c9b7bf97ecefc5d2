use Rattle.std.proofs.Common.{sym, subst, drop, take}
use Rattle.std.proofs.lemmas.List.{take-append-drop}
use Rattle.wfc_log.specs.Log.{AreLogged, cells_of, sizes_after}
use Rattle.wfc_log.proofs.SizeLemmas.{logged-split}
use Rattle.wfc_log.proofs.trail.Trail.settle.Goals as goal

pub move_first-requires-clause-logged : goal.move_first-requires-clause-logged
move_first-requires-clause-logged c =
    let a = c.self.inside in
    let e = a.older.extent in
    let sizes = sizes_after e.sizes (cells_of a.older.removals) in
    let all = (logged-split e e.sizes a.older.removals a.list.items c.self.invariant.logged).1 in
    (logged-split e sizes (take c.args.count a.list.items) (drop c.args.count a.list.items) (subst (AreLogged e sizes) (sym (take-append-drop c.args.count a.list.items)) all)).0
