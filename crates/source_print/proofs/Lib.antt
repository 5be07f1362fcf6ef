mod Bodies
mod Examples
pub mod Forms
mod Nesting
mod Outlines
mod Pieces
mod Printed
pub mod Programs
