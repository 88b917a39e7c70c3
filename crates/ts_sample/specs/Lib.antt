pub mod Chunk
pub mod SampleCollector
pub mod Sample
pub mod Steps
pub mod Visit
