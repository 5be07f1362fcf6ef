pub mod FateLemmas
pub mod GroupLemmas
pub mod KeptLemmas
pub mod ListLemmas
pub mod RosterLemmas
pub mod WalkLemmas
