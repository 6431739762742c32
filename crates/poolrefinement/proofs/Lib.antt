pub mod Frame
pub mod Stocks
pub mod Requests
pub mod Refills
pub mod Whole
pub mod Runs
