pub mod Commits
pub mod Contents
pub mod NextVersion
pub mod OneTable
pub mod Preparing
pub mod Puts
pub mod SnapshotIds
