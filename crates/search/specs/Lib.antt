pub mod Search
pub mod Asked
pub mod Chunk
pub mod SearchLaws
pub mod ChunkLaws
