mod BlockSteps
mod DrawSteps
mod PopSteps
mod BatchSteps
pub mod InverseLaws
mod PushSteps
mod StretchSteps
pub mod ListSteps
pub mod RunSteps
pub mod CarveSteps
