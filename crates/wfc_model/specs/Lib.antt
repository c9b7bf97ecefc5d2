pub mod Direction
pub mod Raster
pub mod Window
pub mod Image
pub mod Learned
pub mod Legal
pub mod Renumbered
pub mod Small
