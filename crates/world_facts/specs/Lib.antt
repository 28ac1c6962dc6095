pub mod Shown
pub mod Rises
pub mod Kept
pub mod Lists
pub mod Climbing
