pub mod CallerLemmas
mod GatheringLaws
mod LoadingLaws
mod Parting
mod ReadCounts
mod Standing
