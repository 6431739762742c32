pub mod Trace
pub mod Words
pub mod way
