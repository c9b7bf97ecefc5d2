-- What callers cite: agreement of patterns, where a window stands among them, and that what is learned are patterns.
pub use Rattle.wfc_pattern.proofs.AgreementLemmas.{everywhere, tested}
pub use Rattle.wfc_pattern.proofs.LearningLemmas.{learned_are_patterns, learned_are_different, taught_are_patterns, below_n, too_many, few_enough}
pub use Rattle.wfc_pattern.proofs.PatternsLemmas.{found_there, found_again, not_found}
pub use Rattle.wfc_pattern.proofs.StepLemmas.{neighbours_agree, opposite_agrees}
