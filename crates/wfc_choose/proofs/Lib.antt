pub mod CallerLemmas
pub mod DrawLemmas
pub mod ShareLemmas
pub mod IndexLemmas
pub mod PickLemmas
