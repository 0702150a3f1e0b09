pub mod CallerLemmas
mod Committed
mod FalseFilter
mod Loads
mod PlanLaws
mod RowsRead
mod SameSchema
mod Settling
