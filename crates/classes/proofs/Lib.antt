pub mod Table
pub mod Match
pub mod Shapes
pub mod Rounding
pub mod Answers
pub mod NearFit
pub mod Meaning
pub mod Examples
