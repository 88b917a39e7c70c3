pub mod Chunk
pub mod Laws
pub mod Marks
pub mod Numbers
pub mod Packed
pub mod Reading
pub mod Decoder
pub mod Restoring
