-- What callers cite: runs with the words of a seed, and rules that pick alike.
pub use Rattle.wfc_runs.proofs.RunLemmas.{ran_end, ran_legal}
pub use Rattle.wfc_runs.proofs.AlikeLemmas.{from_alike, kinds_alike, plain_alike, plain_runs, rules_alike, runs_alike, turn_alike}
