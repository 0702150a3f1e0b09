pub mod Answer
pub mod Block
pub mod Container
pub mod ContainerText
pub mod Grammar
pub mod Header
pub mod Pairs
