pub mod Line
pub mod Number
pub mod View
pub use Rattle.wfc_outside.specs.Sink
