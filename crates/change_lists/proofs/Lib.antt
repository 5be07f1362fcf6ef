pub mod Neighbours
pub mod Told
