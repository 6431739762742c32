pub mod Pre
pub mod Ends
