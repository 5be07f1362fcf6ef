pub mod Does
pub mod Kinds
pub mod Laws
pub mod Programs
pub mod Shapes
pub mod Trace
pub mod Widths
