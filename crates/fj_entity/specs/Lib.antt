pub mod Fates
pub mod Groups
pub mod Kept
pub mod Rosters
pub mod Walks
