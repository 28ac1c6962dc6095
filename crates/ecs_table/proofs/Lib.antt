pub mod ColumnLemmas
pub mod Soundness
pub mod TableLists
pub mod Places
pub mod Rows
pub mod Order
pub mod TableIds
pub mod WholeColumns
