pub mod DistinctItems
pub mod Numbers
