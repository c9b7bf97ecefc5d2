pub mod Class
pub use Rattle.wfc_model.specs.Image
