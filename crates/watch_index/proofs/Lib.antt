mod Blocks
mod OccasionLists
mod ListedOccasions
mod GatheredNumbers
mod ConcernedNumbers
mod WordNumbers
mod MarkChanges
pub mod NamePlaces
mod IndexedValues
mod WatchPlaces
pub mod WrittenWatches
