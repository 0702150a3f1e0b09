pub mod CallerLemmas
mod EntryLaws
mod StatisticsLaws
mod Texts
