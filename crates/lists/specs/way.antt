pub mod Push
pub mod Stretch
