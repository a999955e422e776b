pub mod Tracks
