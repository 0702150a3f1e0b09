pub mod Commit
pub mod Fitting
pub mod Kept
pub mod NewTable
pub mod PartsAfter
pub mod Writable
