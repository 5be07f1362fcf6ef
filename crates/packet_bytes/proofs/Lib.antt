pub mod Printables
pub mod Spells
pub mod Loops
pub mod Fields
pub mod Elements
pub mod Packets
