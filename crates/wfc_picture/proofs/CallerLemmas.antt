-- What the crates above cite of symbols, the words that spell them, and palettes.
pub use Rattle.wfc_picture.proofs.NumberedLemmas.{palette_has, numbered_below, named_back}
pub use Rattle.wfc_picture.proofs.SymbolLemmas.{same_symbol-sound, same_symbol-whole}
pub use Rattle.wfc_picture.proofs.WordLemmas.{one_symbol}
