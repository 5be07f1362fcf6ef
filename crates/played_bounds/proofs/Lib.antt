pub mod Acts
pub mod Programs
pub mod Rounds
pub mod Steps
pub mod Records
