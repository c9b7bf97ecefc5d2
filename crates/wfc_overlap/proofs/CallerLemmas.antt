-- What crates above cite: that a sample makes a problem, that pictures and assignments are each other's, when a number suits a
-- pin, what lines mean, and that patterns with small numbers paint small ones.
pub use Rattle.wfc_places.proofs.CallerLemmas.{suits-from, held-from_suits}
pub use Rattle.wfc_overlap.proofs.SampleLemmas.{sample_problem, entry, supports-at, base-at}
pub use Rattle.wfc_overlap.proofs.BackLemmas.{window-is}
pub use Rattle.wfc_overlap.proofs.RuleLemmas.{there, back, exactly}
pub use Rattle.wfc_overlap.proofs.RoundLemmas.{picture_again, numbers_again}
pub use Rattle.wfc_overlap.proofs.LineLemmas.{MeansPin, pin_meant, meant_pin, HasFirst, first_meant, pins_inside}
pub use Rattle.wfc_overlap.proofs.PaintLemmas.{pixel_small}
