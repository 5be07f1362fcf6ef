mod Lowest
mod Bounds
