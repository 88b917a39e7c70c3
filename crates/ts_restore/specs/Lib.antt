pub mod CheckNumber
pub mod Checkpoint
pub mod Laid
pub mod Restorable
pub mod Restored
pub mod Summaries
