pub mod CallerLemmas
pub mod NumberedLemmas
pub mod PaletteLemmas
pub mod PictureLemmas
pub mod SymbolLemmas
pub mod WordLemmas
