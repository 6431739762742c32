pub mod TakePlan
pub mod TakeAnswer
