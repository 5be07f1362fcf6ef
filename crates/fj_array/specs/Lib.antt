pub mod Cells
pub mod Effects
pub mod Grids
pub mod Touched
