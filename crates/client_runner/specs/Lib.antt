pub mod Turned
pub mod Needs
pub mod Steps
pub mod Runners
pub mod Worked
