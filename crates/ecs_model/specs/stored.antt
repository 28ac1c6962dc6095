-- Stored queries: what they are notified of after commands, the session that has them, and the tables that a kept one
-- lists.
pub mod Watches
pub mod Refusal
pub mod Session
pub mod Tables
