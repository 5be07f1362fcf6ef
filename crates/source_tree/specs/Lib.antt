pub mod Expressions
pub mod Forms
pub mod Heights
pub mod Items
pub mod Limits
pub mod Programs
pub mod Statements
pub mod Words
