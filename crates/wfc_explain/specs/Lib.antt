pub mod Pinned
pub mod Outcomes
pub mod Trials
pub mod Blame
pub mod KeptLines
pub mod Masks
pub mod Problems
pub mod Small
