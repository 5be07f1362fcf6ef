pub mod Held
pub mod Joined
pub mod Placed
pub mod Purged
pub mod Sets
pub mod States
pub mod Told
pub mod Valued
