pub mod DefaultLemmas
pub mod MatchLemmas
pub mod NamedLemmas
pub mod RangeLemmas
pub mod SimpleLemmas
pub mod TableLemmas
pub mod ValueLemmas
