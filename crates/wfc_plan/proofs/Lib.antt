pub mod StepLemmas
pub mod FileLemmas
pub mod KindLemmas
pub mod OrderLemmas
pub mod PlanLemmas
pub mod StatusLemmas
pub mod ReachLemmas
pub mod CallerLemmas
