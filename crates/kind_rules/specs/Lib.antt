pub mod Names
pub mod Expressions
pub mod Statements
pub mod Declarations
pub mod Programs
pub mod Answers
pub mod Words
