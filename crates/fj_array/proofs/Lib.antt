pub mod CellLemmas
pub mod GridLemmas
pub mod WalkLemmas
pub mod ListLemmas
pub mod TouchLemmas
pub mod StretchLemmas
