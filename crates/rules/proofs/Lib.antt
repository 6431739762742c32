pub mod RowSteps
pub mod Cover
