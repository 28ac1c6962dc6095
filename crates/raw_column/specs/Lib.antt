pub mod Buffer
pub mod Contents
pub mod Lends
pub mod Ownership
pub mod Places
pub mod Sizes
