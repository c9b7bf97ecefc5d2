pub mod CallerLemmas
pub mod DirectionLemmas
pub mod ImageLemmas
pub mod LearnedLemmas
pub mod PlaceLemmas
pub mod RasterLemmas
pub mod RenumberedLemmas
mod SmallLemmas
pub mod SquareLemmas
