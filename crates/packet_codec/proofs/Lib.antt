pub mod Bounded
pub mod Counted
pub mod Shaped
pub mod Spelled
pub mod Again
pub mod Records
pub mod Examples
