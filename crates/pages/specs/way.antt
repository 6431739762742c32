pub mod Pre
