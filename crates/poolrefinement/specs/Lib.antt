pub mod Run
pub mod way
