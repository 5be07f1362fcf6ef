mod Storms
mod Joining
mod Touching
mod Kept
mod Drawn
mod First
