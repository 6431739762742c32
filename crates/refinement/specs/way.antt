pub mod Chain
pub mod Represents
pub mod Footprint
