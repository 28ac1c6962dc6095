pub mod Touched
pub mod Judging
pub mod Mentions
pub mod Telling
