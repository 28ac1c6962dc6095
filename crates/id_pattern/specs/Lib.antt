pub mod Patterns
pub mod SamePattern
