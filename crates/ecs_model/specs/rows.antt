-- What a checked query asks of a world, and its rows.
pub mod View
pub mod Level
pub mod Rows
pub mod Text
