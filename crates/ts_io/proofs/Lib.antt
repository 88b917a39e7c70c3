pub mod Adding
pub mod Batching
pub mod Counting
pub mod Growth
pub mod Holding
pub mod Reading
