pub mod Halving
pub mod Cutting
pub mod Shown
pub mod Bench
