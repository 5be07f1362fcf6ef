pub mod Serials
pub mod Stretches
pub mod Doing
pub mod Needing
pub mod Hubs
pub mod Meeting
pub mod Running
pub mod Ordered
