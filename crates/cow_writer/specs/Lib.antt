pub mod Copies
pub mod Pieces
pub mod PutNames
pub mod Reading
