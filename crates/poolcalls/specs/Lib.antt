pub mod Stock
pub mod Calls
pub mod way
