use Rattle.std.proofs.lemmas.Result.{err_from_is_err_and}
use Rattle.wfc_log.specs.Domains.{has}
use Rattle.wfc_render.specs.Block.{cell_line}
use Rattle.wfc_render.proofs.GatheringLemmas.{fault_next, passes_next}
use Rattle.wfc_render.proofs.blocks.put_cells.Goals as goal

pub returns-in_err-put_cell : goal.returns-in_err-put_cell
returns-in_err-put_cell g c =
    let p = err_from_is_err_and c.from_residual.result c.from_residual.ensures.1 in
    record { gathered = rw p.1 (fault_next (cell_line (has c.args.domains.now) c.args.values) c.loop-cell.cell c.args.cells _ _ _ c.args.piece.now c.loop-cell.piece c.loop-cell-test.true c.loop-cell.invariant c.in_err-put_cell.ensures.gathered) }

pub loop-cell-preserved : goal.loop-cell-preserved
loop-cell-preserved g c = passes_next (cell_line (has c.args.domains.now) c.args.values) c.loop-cell.cell _ _ _ c.args.piece.now c.loop-cell.piece c.put_cell.new.piece c.loop-cell.invariant c.in_ok-put_cell.ensures.gathered
