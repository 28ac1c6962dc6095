pub mod Entities
pub mod Slots
pub mod Sizes
