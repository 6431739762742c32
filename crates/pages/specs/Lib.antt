pub mod Runs
pub mod Stack
pub mod Links
pub mod Carve
pub mod Valid
pub mod way
