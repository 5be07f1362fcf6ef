mod Begun
pub mod Fronts
pub mod Literals
mod Opened
pub mod Sameness
pub mod Splits
mod Scanned
pub mod Lexing
