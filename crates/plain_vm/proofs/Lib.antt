mod Examples
pub mod Falling
pub mod Pops
pub mod Runs
pub mod ValidExamples
pub mod Well
