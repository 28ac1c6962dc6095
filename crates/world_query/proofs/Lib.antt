mod NamedEntities
mod Texts
mod KeptTexts
mod KeptRows
mod PrintedLists
pub mod AskedQueries
mod AnswerLines
pub mod RowLines
mod MatchedEntities
mod Probes
mod PlannedCounts
mod Chains
mod Sheets
pub mod Fronts
pub mod SentTexts
pub mod Sends
