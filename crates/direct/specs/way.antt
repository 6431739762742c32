pub mod Pre
pub mod Acts
pub mod Told
