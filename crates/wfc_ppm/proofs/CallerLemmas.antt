-- What callers cite.
pub use Rattle.wfc_ppm.proofs.PpmLemmas.{spelled-read, read-spelled, read-picture}
pub use Rattle.wfc_ppm.proofs.OneLemmas.{one_picture}
