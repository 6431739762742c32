pub mod Answers
pub mod Masks
pub mod RoundTrip
pub mod Refusals
