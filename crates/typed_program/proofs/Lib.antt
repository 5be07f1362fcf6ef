pub mod Bounds
pub mod Equations
mod Examples
pub mod Fits
pub mod Keeps
mod KindExamples
pub mod KindLaws
pub mod Next
pub mod Orderly
mod ProgramExamples
pub mod Shaped
pub mod Slots
pub mod Traces
pub mod Values
