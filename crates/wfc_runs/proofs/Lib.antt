pub mod RunLemmas
pub mod AlikeLemmas
pub mod CallerLemmas
