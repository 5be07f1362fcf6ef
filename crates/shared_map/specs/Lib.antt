pub mod Entries
pub mod Flags
pub mod Places
pub mod Shelves
