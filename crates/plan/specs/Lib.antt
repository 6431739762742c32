pub mod Plan
pub mod Fits
pub mod Code
pub mod Examples
pub mod way
