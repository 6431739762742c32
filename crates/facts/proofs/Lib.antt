pub mod Bools
pub mod Lists
pub mod Prelude
pub mod Ranges
