pub mod Clients
pub mod Worlds
pub mod Plays
pub mod Programs
pub mod Laws
pub mod Worked
