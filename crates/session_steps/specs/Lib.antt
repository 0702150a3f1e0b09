pub mod Choices
pub mod Faults
pub mod Open
pub mod Outside
pub mod Steps
pub mod Work
