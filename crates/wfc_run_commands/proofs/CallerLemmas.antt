-- What callers cite of each command: what it needs of its values, its first fault, how it ends, and what it promises.
pub use Rattle.wfc_run_commands.proofs.RacerLemmas.{runners_asked}
pub use Rattle.wfc_run_commands.proofs.RaceOrderLemmas.{faults_race}
pub use Rattle.wfc_run_commands.proofs.RacePromiseLemmas.{race_ends, race_promise}
pub use Rattle.wfc_run_commands.proofs.ExplainOrderLemmas.{faults_explain}
pub use Rattle.wfc_run_commands.proofs.ExplainRuleLemmas.{explain_asked}
pub use Rattle.wfc_run_commands.proofs.ExplainPromiseLemmas.{explain_ends, explain_promise}
