pub mod Weathers
pub mod Servers
pub mod Stations
pub mod First
