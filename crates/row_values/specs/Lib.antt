pub mod Columns
pub mod Order
pub mod Rows
