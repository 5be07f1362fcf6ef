pub mod Flushes
mod Over
mod Tails
mod Ids
mod Rights
