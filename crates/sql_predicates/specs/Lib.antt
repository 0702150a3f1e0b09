pub mod Exprs
pub mod Kinds
pub mod NormalForm
pub mod Positions
pub mod Truth
