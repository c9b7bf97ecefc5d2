pub mod Counts
pub mod WithoutRepeats
