pub mod EventLines
pub mod BinarySearches
pub mod Numbers
pub mod OrderedChanges
pub mod ObserverTerms
pub mod ToldLists
pub mod StoredKinds
pub mod MissedTerms
