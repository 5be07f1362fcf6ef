pub mod Codes
pub mod Parts
pub mod Performs
pub mod Renders
pub mod Expressions
pub mod Listings
pub mod Statements
pub mod Bodies
pub mod Slots
pub mod Sound
pub mod SoundLoops
pub mod ValidExpressions
pub mod ValidStatements
pub mod ValidBodies
mod Examples
pub mod Emits
pub mod Reaches
pub mod Blocks
pub mod Clients
mod Choices
