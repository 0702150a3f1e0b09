pub mod Carrier
pub mod Columns
pub mod DatumValue
pub mod Rows
pub mod Sources
