pub mod Records
pub mod Boxed
pub mod Between
pub mod Serving
