pub mod CallerLemmas
pub mod Forests
pub mod Joins
pub mod Least
pub mod Nodes
pub mod OnlyJoins
pub mod Sound
pub mod Told
pub mod Waiting
mod WordLemmas
mod LineLemmas
mod HeadLemmas
pub mod TellingLemmas
mod PutLemmas
mod SpanLemmas
mod UpgradeLemmas
pub mod Formed
pub mod WrittenLemmas
pub mod ProofTextLemmas
