-- What callers cite of each command: its first fault, how it ends, and what it promises.
pub use Rattle.wfc_map_commands.proofs.FillOrderLemmas.{faults_fill}
pub use Rattle.wfc_map_commands.proofs.FillMapLemmas.{HasFilled, filled_with, map_ends, map_promise}
pub use Rattle.wfc_map_commands.proofs.FillPromiseLemmas.{fill_ends, fill_promise}
pub use Rattle.wfc_map_commands.proofs.LearnOrderLemmas.{faults_learn}
pub use Rattle.wfc_map_commands.proofs.LearnPromiseLemmas.{learn_ends, learn_promise}
pub use Rattle.wfc_map_commands.proofs.DomainsOrderLemmas.{faults_domains}
pub use Rattle.wfc_map_commands.proofs.DomainsPromiseLemmas.{domains_ends, domains_promise}
pub use Rattle.wfc_map_commands.proofs.DemoOrderLemmas.{faults_demo}
pub use Rattle.wfc_map_commands.proofs.DemoPromiseLemmas.{demo_ends}
pub use Rattle.wfc_map_commands.proofs.DemoLemmas.{demo_promise}
