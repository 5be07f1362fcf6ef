pub mod Brackets
pub mod Lexemes
pub mod Positions
pub mod Scans
pub mod Terminals
