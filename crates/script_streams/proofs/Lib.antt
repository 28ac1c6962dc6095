mod KeptLines
pub mod AppendedBytes
pub mod Ends
