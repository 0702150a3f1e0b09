pub mod BigEndian
pub mod Bounds
pub mod KindValues
pub mod LittleEndian
