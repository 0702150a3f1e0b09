pub mod Committing
pub mod Current
pub mod Next
pub mod Planning
pub mod Plans
pub mod Settled
pub mod Validation
