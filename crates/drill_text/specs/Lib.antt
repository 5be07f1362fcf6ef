pub mod Drills
