pub mod Stock
pub mod Pool
pub mod Observed
pub mod way
