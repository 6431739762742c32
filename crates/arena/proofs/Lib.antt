pub mod Frames
