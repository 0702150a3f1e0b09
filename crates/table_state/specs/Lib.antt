pub mod Faults
pub mod Files
pub mod Form
pub mod Gathering
pub mod Live
pub mod Loading
pub mod States
