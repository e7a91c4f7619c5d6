-- Words that serve the proofs of a session's values alone.
pub mod Sharing
pub mod EntryBirths
pub mod Counting
