pub mod BlameLemmas
pub mod TrialLemmas
pub mod KeptLemmas
pub mod ProblemLemmas
mod TwoCellLemmas
