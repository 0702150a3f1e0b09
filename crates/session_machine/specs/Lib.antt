pub mod Events
pub mod Machine
pub mod Plans
pub mod Sights
