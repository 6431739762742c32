pub mod way
pub mod Answer
