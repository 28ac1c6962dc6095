pub mod Fields
pub mod Numbers
pub mod RunFronts
pub mod SetTables
pub mod Written
