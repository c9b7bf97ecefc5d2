use Rattle.wfc_blocks.proofs.PaintLemmas.{put_entry}
use Rattle.wfc_blocks.proofs.canvas.Canvas.put.Goals as goal

pub returns-clause-put : goal.returns-clause-put
returns-clause-put c =
    let column = rw (← c.self.view_is) at c.requires.column_in in
    let row = rw (← c.self.view_is) at c.requires.row_in in
    rw (← c.self.view_is) (put_entry c.self.inside.width c.self.inside.height c.self.inside.entries.items c.args.x c.args.y c.args.number c.requires.small c.self.invariant.as_many column row)
