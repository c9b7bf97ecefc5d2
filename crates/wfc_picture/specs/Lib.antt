pub mod Palette
pub mod Small
pub mod Symbol
pub use Rattle.wfc_model.specs.Raster
pub use Rattle.wfc_outside.specs.Gives
