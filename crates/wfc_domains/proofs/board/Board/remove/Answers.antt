use Rattle.std.proofs.Common.{◌∙◌, arith}
use Rattle.wfc_domains.proofs.Boards.{board-logged, board-room, stands-in}
use Rattle.wfc_domains.proofs.board.Board.remove.Goals as goal

pub size-before-requires : goal.size-before-requires
size-before-requires c =
    let t = c.requires.traced in
    record { cell_in = omega (arith, (stands-in c.args.self.now t _ _ c.requires.stands).0, t.same_cells) }

pub remove-requires-clause-cell_in : goal.remove-requires-clause-cell_in
remove-requires-clause-cell_in c =
    let t = c.requires.traced in
    omega (arith, (stands-in c.args.self.now t _ _ c.requires.stands).0, t.same_cells)

pub remove-requires-clause-value_in : goal.remove-requires-clause-value_in
remove-requires-clause-value_in c =
    let t = c.requires.traced in
    omega (arith, (stands-in c.args.self.now t _ _ c.requires.stands).1, t.same_values)

pub push-requires-clause-room : goal.push-requires-clause-room
push-requires-clause-room c = board-room c.args.self.now c.requires.traced c.requires.filled

pub push-requires-clause-logged : goal.push-requires-clause-logged
push-requires-clause-logged c =
    let b = c.args.self.now in
    let l = board-logged b c.requires.traced c.args.cell c.args.value c.args.cause c.requires.stands c.requires.cause_in in
    record { inside = l.inside; before = c.size-before.ensures.value ∙ l.before; some = omega (arith, l.some, c.size-before.ensures.value) }
