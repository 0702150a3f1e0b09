pub mod CallerLemmas
mod CopyLaws
mod FileDecisions
mod FileRows
mod HitLaws
mod HitRows
mod HitSteps
mod MadeLaws
mod PartingLaws
mod RowLaws
mod SameFiles
mod ScanLaws
mod Standing
mod WidthLaws
