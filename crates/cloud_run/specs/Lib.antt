pub mod Commands
pub mod Flows
pub mod Runs
pub mod Statuses
pub mod Top
