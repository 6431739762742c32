pub mod Record
pub mod Plan
pub mod Act
pub mod Scan
pub mod Change
pub mod Pre
pub mod Found
pub mod Told
