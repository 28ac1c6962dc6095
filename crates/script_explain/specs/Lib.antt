pub mod Kinds
pub mod Nearness
pub mod Places
