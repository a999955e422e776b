pub mod Text
pub mod Bench
