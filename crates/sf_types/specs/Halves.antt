-- The table in halves: what a session can tell by itself, what it asks of the store, and what the store answers (our own).
pub mod Own
pub mod Asks
pub mod Flushes
