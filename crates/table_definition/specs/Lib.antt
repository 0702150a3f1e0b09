pub mod Definition
pub mod FirstText
pub mod Identifier
pub mod LastIds
