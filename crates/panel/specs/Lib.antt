pub mod Panel
pub mod Step
pub mod Bench
