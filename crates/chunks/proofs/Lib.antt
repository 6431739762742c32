mod Indices
mod Chains
mod NameLaws
mod MatchLaws
mod NameSteps
mod CountSteps
mod MatchSteps
pub mod GatherPlace
pub mod GatherPush
pub mod Gather
pub mod GatherGives
pub mod PushLaws
pub mod PushRuns
pub mod GiveLaws
pub mod ValidSteps
pub mod PlaceKept
pub mod PlaceSteps
pub mod PageMarks
pub mod CallTests
pub mod MarkSteps
pub mod CallPasses
pub mod CallSteps
