pub mod CallerLemmas
pub mod LineLemmas
pub mod NumberLemmas
pub mod PassLemmas
