pub mod Places
pub mod Seen
pub mod Terms
pub mod Numbered
pub mod Found
