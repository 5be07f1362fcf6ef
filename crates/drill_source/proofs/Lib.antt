mod Trees
mod Pieces
mod Scanned
mod Spelled
mod Limited
mod Nested
mod Kept
