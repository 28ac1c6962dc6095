-- One step of a world: which rules it goes by, what a command changes, why it is refused, and what every world has.
pub mod Rules
pub mod FactChanges
pub mod Step
pub mod Pins
pub mod WellFormed
pub mod StepLaws
pub mod FactLaws
pub mod Outcomes
