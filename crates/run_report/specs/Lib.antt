pub mod Escapes
pub mod Lines
pub mod Records
pub mod Report
pub mod Texts
