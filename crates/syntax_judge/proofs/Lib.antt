mod Agreed
mod Carried
mod Checks
pub mod Ends
pub mod Faults
pub mod Judged
mod Lead
pub mod Moves
mod Over
mod Places
mod Step
mod Truth
pub mod Verdicts
