pub mod Run
pub mod Bench
