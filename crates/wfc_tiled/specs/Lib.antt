pub mod Mask
pub mod Tiles
pub mod Maps
pub mod Built
pub mod Cut
pub mod Small
pub mod Setting
pub mod Subject
