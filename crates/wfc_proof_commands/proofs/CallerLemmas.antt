-- What callers cite of each command: its first fault, how it ends, and what it promises.
pub use Rattle.wfc_proof_commands.proofs.FlatLemmas.{check_ends, check_promise, faults_check, faults_refute, refute_ends, refute_promise}
pub use Rattle.wfc_proof_commands.proofs.UpgradeOrderLemmas.{faults_upgrade}
pub use Rattle.wfc_proof_commands.proofs.UpgradeLemmas.{upgrade_ends, upgrade_promise}
-- And what a command cites that refutes or checks another kind of maps.
pub use Rattle.wfc_proof_commands.proofs.ProofKindLemmas.{IsProofKind}
pub use Rattle.wfc_proof_commands.proofs.RefutingLemmas.{behind_refuted, behind_refuter}
pub use Rattle.wfc_proof_commands.proofs.RefuteEndLemmas.{refute_done, refute_none, refute_short, refute_stopped, refute_unfinished}
pub use Rattle.wfc_proof_commands.proofs.CheckingLemmas.{behind_checked_problem}
