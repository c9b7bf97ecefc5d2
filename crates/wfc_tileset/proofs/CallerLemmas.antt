-- What crates above cite: that a document spells a tile set, that there are no fewer variants than tiles, that each number below
-- their count is one's, and that a pair is allowed exactly where the test says so.
pub use Rattle.wfc_tileset.proofs.DocumentSetLemmas.{document_is_set, pictured_is_set}
pub use Rattle.wfc_tileset.proofs.PairLemmas.{has_the_pair, pair_has}
pub use Rattle.wfc_tileset.proofs.VariantLemmas.{few_tiles, variant_there}
