pub mod Store
pub mod ByIds
pub mod Rows
pub mod Kept
pub mod SlotBits
pub mod Going
