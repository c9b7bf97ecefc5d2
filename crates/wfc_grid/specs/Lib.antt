pub mod Fault
pub mod Grid
pub mod Reading
pub mod Spelling
pub use Rattle.wfc_model.specs.Raster
pub use Rattle.wfc_outside.specs.Gives
pub use Rattle.wfc_text.specs.Line
