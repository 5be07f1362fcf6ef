pub mod Prefixes
pub mod Own
pub mod Joined
pub mod Alone
