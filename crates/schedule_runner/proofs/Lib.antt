mod AddedNames
mod AloneLaws
mod BaseLaws
mod BlockCounts
pub mod CallerLemmas
mod CountLaws
mod Counts
mod DatumCounts
mod EntryLaws
mod Outcomes
mod ReadScripts
mod RunLaws
mod RunningLaws
mod SerialLaws
mod StepLaws
mod TurnLaws
mod TurnsAlone
mod Unbegun
