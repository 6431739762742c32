pub mod Parts
pub mod Shifts
pub mod Laws
pub mod Changes
pub mod Outcome
pub mod Sound
pub mod Clear
pub mod OutBits
