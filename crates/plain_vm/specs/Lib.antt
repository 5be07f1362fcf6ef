pub mod Code
pub mod Exec
pub mod Fits
pub mod Left
pub mod Listing
pub mod Valid
