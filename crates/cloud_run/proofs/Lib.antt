pub mod Calls
pub mod Judged
pub mod Pieces
pub mod Played
