pub mod EntryLemmas
pub mod FlagLemmas
pub mod LaidLemmas
pub mod PlaceLemmas
pub mod EditLemmas
pub mod WalkLemmas
