pub mod Occasions
pub mod SameOccasion
pub mod Marks
pub mod Words
pub mod Listed
pub mod Laws
pub mod NameOrder
pub mod WatchOrder
