-- What callers cite of each command: its first fault, how it ends, what it promises, and that its frame is in range.
pub use Rattle.wfc_box_commands.proofs.BoxCallLemmas.{box_check_ends, box_check_promise, box_fill_ends, box_fill_promise, box_refute_ends, box_refute_promise}
pub use Rattle.wfc_box_commands.proofs.BoxKindLemmas.{TakesBox, command_frame}
pub use Rattle.wfc_box_commands.proofs.BoxOrderLemmas.{faults_box_fill}
pub use Rattle.wfc_box_commands.proofs.BoxPromiseLemmas.{faults_box_check, faults_box_refute}
