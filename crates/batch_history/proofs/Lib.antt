pub mod Fronts
pub mod Clients
pub mod Above
pub mod Worked
