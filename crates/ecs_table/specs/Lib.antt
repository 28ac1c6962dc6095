pub mod Archetype
pub mod DataIds
pub mod EntityList
pub mod IdList
pub mod TableData
