pub mod AnswerLemmas
pub mod DeliveryLemmas
pub mod MemoryLemmas
pub mod LineLemmas
pub mod PromiseLemmas
pub mod TheoremLemmas
pub mod ToldLemmas
