pub mod Pre
pub mod Tally
pub mod Steps
pub mod Course
