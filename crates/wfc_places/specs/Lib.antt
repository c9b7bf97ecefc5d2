pub mod Steps
pub mod Marks
pub mod Flags
