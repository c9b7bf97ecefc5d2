-- What callers cite: texts whose bytes pass a test, and the first line of a text.
pub use Rattle.wfc_text.proofs.PassLemmas.{all_pass, none_found}
pub use Rattle.wfc_text.proofs.LineLemmas.{lines_from-feed, lines_from-plain}
