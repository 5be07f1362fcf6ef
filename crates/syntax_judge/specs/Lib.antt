pub mod Faults
pub mod Grammar
pub mod Programs
pub mod Tables
