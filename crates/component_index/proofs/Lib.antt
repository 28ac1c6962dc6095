mod EnteredLemmas
pub mod ListedLemmas
mod ListingLemmas
mod MentionLemmas
pub mod TableLemmas
mod RegisterWalks
