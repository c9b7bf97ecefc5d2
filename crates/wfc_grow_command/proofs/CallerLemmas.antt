-- What callers cite: what it needs of its values, its first fault, how it ends, and what it promises.
pub use Rattle.wfc_grow_command.proofs.GrowAskedLemmas.{grow_asked}
pub use Rattle.wfc_grow_command.proofs.GrowOrderLemmas.{faults_grow}
pub use Rattle.wfc_grow_command.proofs.GrowPromiseLemmas.{grow_ends, grow_promise}
