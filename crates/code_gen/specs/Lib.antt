pub mod Compile
pub mod Compiled
pub mod Listings
pub mod Meaning
pub mod Reach
