mod Examples
pub mod TellValues
pub mod TellAnswers
pub mod TellChanges
pub mod TellPlaces
pub mod TellNamed
pub mod TellCells
pub mod TellLines
