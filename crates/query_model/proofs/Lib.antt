pub mod MachineComplete
mod MachineSound
pub mod SyntaxFaults
pub mod FirstOccurrence
pub mod TextOrder
pub mod SoundTerms
pub mod NumberedVariables
pub mod ScopedVariables
pub mod FreshVariables
pub mod TokenSpelling
mod TextChecks
