pub mod Diagram
pub mod Lawful
pub mod Right
pub mod Once
pub mod Story
pub mod Meeting
pub mod Untouched
pub mod Headline
