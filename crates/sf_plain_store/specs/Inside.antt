-- Words that serve the store's own proofs.
pub mod Bodies
pub mod DueCalls
pub mod Flushes
pub mod Places
pub mod Players
