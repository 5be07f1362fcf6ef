pub mod Left
pub mod Spelling
pub mod Reading
