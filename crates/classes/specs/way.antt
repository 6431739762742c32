pub mod Sound
pub mod Near
