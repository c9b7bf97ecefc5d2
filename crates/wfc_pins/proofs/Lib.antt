pub mod WordLemmas
pub mod InOrderLemmas
pub mod StepLemmas
pub mod FirstLemmas
pub mod CallerLemmas
