-- What callers cite: what an answer of growth was made of, what growth leaves, and the lines of a stuck block.
pub use Rattle.wfc_blocks.proofs.CanvasLemmas.{canvas-at, canvas_sized}
pub use Rattle.wfc_blocks.proofs.MeantLemmas.{lines_built, lines_meant}
pub use Rattle.wfc_blocks.proofs.PromiseLemmas.{IsGrownBy, grown_by, grown_split, growth_promises}
pub use Rattle.wfc_blocks.proofs.SmallLemmas.{AreSetBelow, full_small, stopped_small}
pub use Rattle.wfc_blocks.proofs.WholeLemmas.{block_within, growth_legal, growth_none, growth_set, growth_spent, growth_stopped, spent_before, stopped_before}
pub use Rattle.wfc_blocks.proofs.GrowthLemmas.{IsSpentAt, IsStopped}
