pub mod StepLemmas
pub mod MarkLemmas
pub mod FlagLemmas
pub mod SupportLemmas
pub mod CallerLemmas
