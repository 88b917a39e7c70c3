pub mod Results
pub mod Pushes
pub mod Counts
pub mod Tallies
pub mod Restoring
