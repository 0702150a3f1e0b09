pub mod Drafts
pub mod Exact
pub mod Holding
pub mod Listed
pub mod Rows
pub mod Sorting
