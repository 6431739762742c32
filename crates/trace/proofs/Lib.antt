pub mod Ways
pub mod Refused
pub mod StepWays
pub mod TakeWays
pub mod ReportWays
pub mod WordWays
pub mod CourseLaws
