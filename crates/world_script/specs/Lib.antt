pub mod Commanding
pub mod Whole
pub mod Run
pub mod Running
pub mod Stepping
pub mod Told
