pub mod BuiltIn
pub mod Changes
pub mod Columns
pub mod DeathNames
pub mod Releases
pub mod Singles
pub mod Standing
pub mod State
