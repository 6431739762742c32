mod CallSteps
mod FigureSteps
pub mod Told
