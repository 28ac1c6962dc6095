pub mod Repeats
pub mod Words
pub mod NumberPlaces
pub mod UnwrittenBytes
