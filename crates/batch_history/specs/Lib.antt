pub mod Batches
pub mod Sound
pub mod Right
pub mod Flushed
