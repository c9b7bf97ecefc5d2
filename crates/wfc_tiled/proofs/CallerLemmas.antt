-- What crates above cite: that a tile set makes a problem, that tile maps and assignments are each other's, what lies beside a cell,
-- and masks without holes.
pub use Rattle.wfc_tiled.proofs.TileLemmas.{base-at, beside-neighbour, neighbour-beside, neighbour-cell, tiles_problem}
pub use Rattle.wfc_tiled.proofs.BridgeLemmas.{map_is_assignment, assignment_is_map, map_again, assignment_again}
pub use Rattle.wfc_tiled.proofs.MaskLemmas.{plain_is, stands}
pub use Rattle.wfc_tiled.proofs.PlainLemmas.{cell_below, plain_cell, plain_map, plain_number, plain_place, plain_there}
