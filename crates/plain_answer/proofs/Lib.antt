mod Kept
mod Links
