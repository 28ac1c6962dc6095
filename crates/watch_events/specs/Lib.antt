pub mod Told
pub mod Terms
pub mod Text
pub mod Hits
