pub mod Take
pub mod Out
pub mod Release
pub mod Chunks
