pub mod Refusals
pub mod Check
pub mod Titles
pub mod Packs
pub mod Bench
