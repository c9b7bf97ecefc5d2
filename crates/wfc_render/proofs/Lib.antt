pub mod CallerLemmas
pub mod ColourLemmas
pub mod GatheringLemmas
pub mod MapLemmas
pub mod RangeLemmas
pub mod TiledLemmas
pub mod TiledMapLemmas
pub mod KeptLemmas
