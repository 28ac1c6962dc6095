pub mod Maps
pub mod TypedValues
pub mod Reasons
pub mod RefusalOrder
pub mod Additions
pub mod Births
pub mod Removals
pub mod NewEntity
pub mod StepAnswers
pub mod RefusedLines
pub mod MadeEntities
pub mod Differences
pub mod FirstWorld
mod DefinitionChecks
mod ReachChecks
pub mod Members
pub mod Ranges
pub mod LivePairs
pub mod ShortLines
pub mod Depths
pub mod LeastSets
pub mod ReachSteps
pub mod ClosedChains
pub mod ReachTests
pub mod steps
mod stored
pub mod Bits
pub mod RisingLists
