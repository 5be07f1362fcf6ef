pub mod Groups
pub mod Lengths
