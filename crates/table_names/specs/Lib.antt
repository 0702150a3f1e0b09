pub mod Drawing
pub mod FileNames
pub mod Marks
pub mod Paths
pub mod Runs
pub mod Sessions
pub mod Versions
