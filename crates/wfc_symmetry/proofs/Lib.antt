pub mod ClassLemmas
pub mod GroupLemmas
