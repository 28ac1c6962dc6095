pub mod Streams
pub mod Turns
pub mod Lines
