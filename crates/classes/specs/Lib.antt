pub mod Sizes
pub mod Shape
pub mod Lookup
pub mod Meaning
pub mod Examples
pub mod way
