pub mod Answer
pub mod way
