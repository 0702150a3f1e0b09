mod Apart
pub mod CallerLemmas
mod DrawingLemmas
mod Folders
mod LeastMissing
mod PathNames
mod RunNames
mod Texts
mod VersionChanges
mod VersionNames
