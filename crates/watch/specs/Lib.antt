pub mod Watch
pub mod Bench
