pub mod StoreLaws
pub mod EndsValid
mod Joins
pub mod Acts
pub mod PlanLaws
mod Least
mod Loading
mod Planning
mod Scanning
mod Touching
mod RecordSteps
mod ActSteps
mod GiveSteps
pub mod CommitSteps
pub mod Told
