mod EntityRows
mod LiveTargets
mod FactViews
mod WorldReads
mod RisingSteps
mod Tables
pub mod Lists
mod Targets
mod SingleTargets
