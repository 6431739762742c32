pub mod Rules
pub mod way
