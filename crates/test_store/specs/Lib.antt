pub mod Closed
pub mod Sizes
