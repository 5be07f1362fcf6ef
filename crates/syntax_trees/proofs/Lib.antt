mod Made
mod Means
mod Read
pub mod Ways
mod Build
mod BuildBody
pub mod BuildWhole
