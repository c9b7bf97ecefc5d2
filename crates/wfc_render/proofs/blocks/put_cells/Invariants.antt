-- What passed so far is the text of the cells below this one.
use Rattle.std.specs.List.{flat_map, range_with_len}
use Rattle.wfc_log.specs.Domains.{has}
use Rattle.wfc_render.specs.Block.{cell_line}
use Rattle.wfc_render.specs.Gathering.{Passes}
use Rattle.wfc_render.proofs.blocks.put_cells.Given as goal

abbrev pub invariant-loop-cell : goal.invariant-loop-cell
invariant-loop-cell g l = Passes (g.S.Sink.seen l.initial.sink) (g.S.Sink.seen l.sink) l.initial.piece (flat_map (cell_line (has l.domains) l.values) (range_with_len 0 l.cell)) l.piece
