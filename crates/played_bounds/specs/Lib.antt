pub mod Few
pub mod Worked
