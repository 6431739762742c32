pub mod Table
pub mod Meaning
pub mod way
