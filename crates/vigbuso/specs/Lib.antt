pub mod Faults
pub mod Direct
pub mod Blocks
pub mod Sizes
pub mod Trace
pub mod Pool
