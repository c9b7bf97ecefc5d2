pub mod CallerLemmas
pub mod FaultLemmas
pub mod GridLemmas
pub mod SpellingLemmas
pub mod TextLemmas
