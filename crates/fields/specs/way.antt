pub mod Names
pub mod OutBits
