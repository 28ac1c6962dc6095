pub mod Asked
pub mod Chunk
pub mod Run
