pub mod Words
pub mod Views
pub mod Runs
pub mod Alike
