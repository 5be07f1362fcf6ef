pub mod Answers
pub mod Bodies
pub mod Lines
pub mod Reading
pub mod Sources
