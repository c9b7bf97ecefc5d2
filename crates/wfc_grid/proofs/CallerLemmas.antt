-- What callers cite: texts that spell grids, and how they are read.
pub use Rattle.wfc_grid.proofs.GridLemmas.{AreLinesOf, spelled-lines, right-spelled, spelled-right, one_grid, written_grid, grid_read, read_grid, fault_read}
