pub mod Runs
pub mod Boxes
pub mod Trades
pub mod Plain
