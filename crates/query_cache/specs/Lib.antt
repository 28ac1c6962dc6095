pub mod Kept
pub mod Laws
pub mod Patterns
pub mod TableList
