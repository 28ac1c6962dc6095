pub mod Reading
pub mod Answerable
pub mod Candidates
pub mod Lines
pub mod Planned
pub mod Probes
pub mod Sent
