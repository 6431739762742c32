pub mod Word
pub mod Limits
pub mod Host
pub mod Refusal
