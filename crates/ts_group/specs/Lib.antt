pub mod Grouped
pub mod Labels
pub mod SlotIndices
pub mod Rows
pub mod Sorted
pub mod Sources
pub mod Summaries
