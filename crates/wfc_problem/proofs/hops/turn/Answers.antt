-- A row lies within the table, and became hops.
use Rattle.wfc_problem.proofs.HopLemmas.{turned_more}
use Rattle.wfc_problem.proofs.hops.turn.Goals as goal

pub loop-cell-preserved : goal.loop-cell-preserved
loop-cell-preserved c =
    turned_more c.args.table.now c.loop-cell.table c.turn_row.new.table c.args.dirs c.loop-cell.cell c.loop-cell.invariant c.turn_row.ensures.turned
