pub mod Cells
pub mod Text
pub mod Values
pub mod Legible
