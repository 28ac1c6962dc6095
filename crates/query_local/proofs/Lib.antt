pub mod MentionedIds
pub mod PiecePasses
pub mod AscendingLists
pub mod LocalMatches
pub mod Moves
pub mod Parity
pub mod NumberPasses
pub mod LocalTellings
