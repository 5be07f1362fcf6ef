pub mod Arithmetic
pub mod Ending
pub mod Examples
pub mod Finding
pub mod Needing
pub mod Popping
pub mod Stepping
