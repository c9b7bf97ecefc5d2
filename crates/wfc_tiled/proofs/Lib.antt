pub mod MaskLemmas
pub mod PlainLemmas
pub mod TileLemmas
pub mod FlagLemmas
pub mod BridgeLemmas
pub mod CallerLemmas
pub mod SubjectLemmas
pub mod LegalMapLemmas
