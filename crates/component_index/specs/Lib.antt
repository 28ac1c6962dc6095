pub mod Changed
pub mod Entered
pub mod Listed
pub mod Listings
pub mod Mentions
pub mod TableList
pub mod Tables
