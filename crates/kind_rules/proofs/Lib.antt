pub mod Apart
pub mod Declarations
pub mod Equations
pub mod Expressions
pub mod Finds
pub mod FitWords
mod KindExamples
pub mod Programs
pub mod Rules
pub mod Schemas
pub mod Statements
