pub mod Held
pub mod Parts
pub mod Moves
pub mod Lists
pub mod Telling
