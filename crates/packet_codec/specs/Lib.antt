pub mod Served
pub mod Pushes
pub mod Replies
pub mod Runs
