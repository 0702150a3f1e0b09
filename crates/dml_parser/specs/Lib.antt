pub mod Answer
pub mod Front
pub mod Grammar
pub mod Items
pub mod Literals
pub mod Read
pub mod Script
pub mod Values
