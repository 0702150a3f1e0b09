pub mod Adding
pub mod Conflicts
pub mod Outcome
pub mod Rows
pub mod Running
pub mod Runs
pub mod Scripts
