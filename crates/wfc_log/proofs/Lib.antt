pub mod BitLemmas
pub mod Rows
pub mod SizeLemmas
pub mod NumberedLemmas
pub mod TopLemmas
pub mod PackedLemmas
pub mod OlderLemmas
