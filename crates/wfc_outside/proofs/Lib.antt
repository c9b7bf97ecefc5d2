pub mod CallerLemmas
pub mod MemoryFolderLemmas
pub mod SinkLemmas
pub mod WholeLemmas
