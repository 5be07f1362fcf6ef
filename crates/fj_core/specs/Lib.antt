pub mod Changes
pub mod IntCells
pub mod IntLaws
pub mod TextCells
pub mod TextLaws
