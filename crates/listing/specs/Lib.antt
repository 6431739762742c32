pub mod History
pub mod Node
pub mod Listing
pub mod way
