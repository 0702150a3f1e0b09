pub mod Decisions
pub mod Parting
pub mod Scanning
