pub mod AnswerableQueries
pub mod KeptRows
pub mod LocalMonitors
pub mod MovedEntities
pub mod PlacedMoves
pub mod RowlessQueries
pub mod StayingRows
