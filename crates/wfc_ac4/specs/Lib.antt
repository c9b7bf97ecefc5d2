pub mod Places
pub mod Links
pub mod State
pub mod Flight
pub mod Engine
