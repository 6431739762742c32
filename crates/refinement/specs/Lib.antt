pub mod Direct
pub mod Classes
pub mod Releases
pub mod Run
pub mod way
