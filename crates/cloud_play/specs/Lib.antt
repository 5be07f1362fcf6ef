pub mod Playings
pub mod Openings
pub mod Runs
