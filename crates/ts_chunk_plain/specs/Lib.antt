pub mod Chunk
pub mod Laws
pub mod Plain
