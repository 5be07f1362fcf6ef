pub mod Finds
pub mod Listings
pub mod Machine
pub mod Runs
pub mod Steps
