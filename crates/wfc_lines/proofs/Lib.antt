pub mod PartLemmas
pub mod CheckTexts
