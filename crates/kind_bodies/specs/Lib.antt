pub mod Found
pub mod Operators
pub mod Settles
pub mod Effects
