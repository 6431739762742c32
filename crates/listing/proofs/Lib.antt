pub mod Gather
pub mod Turns
pub mod Histories
pub mod Order
pub mod Theorems
pub mod Answer
