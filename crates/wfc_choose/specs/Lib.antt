pub mod Pick
pub mod Draw
pub mod Told
pub mod Index
