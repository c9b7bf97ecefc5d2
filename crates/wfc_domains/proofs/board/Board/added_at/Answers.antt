use Rattle.std.proofs.Common.{◌≡◌, ap, sym, arith, length}
use Rattle.std.proofs.lemmas.List.{length-drop}
use Rattle.wfc_domains.specs.Board.{view_of}
use Rattle.wfc_domains.specs.Store.{level_mark}
use Rattle.wfc_domains.proofs.Boards.{log-few, mark-in, added-there}
use Rattle.wfc_domains.proofs.board.Board.added_at.Goals as goal

pub overflow_add-mark : goal.overflow_add-mark
overflow_add-mark c =
    let v = view_of c.args.self.now in
    omega (arith, c.mark.ensures.value, c.requires.index_in, length-drop (level_mark v.marks) v.removals, log-few c.args.self.now c.requires.traced)

pub returns : goal.returns
returns c =
    record { value = λ r there. c.loss.ensures.value r (added-there (view_of c.args.self.now) c.args.index c.mark.result r c.mark.ensures.value there) }
