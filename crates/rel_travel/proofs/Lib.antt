pub mod Growth
mod AddedLists
pub mod SearchStarts
mod KnownWays
mod SearchRounds
pub mod Cleanup
mod LineSearch
pub mod NotedWays
pub mod DepthWalks
pub mod Marks
mod Rows
mod WorkLists
mod Pulls
mod Turns
pub mod Lists
mod Mentions
pub mod ForbiddenDeletions
