-- Words that serve the proofs of a session's own part alone.
pub mod PartBirths
pub mod RowCuts
pub mod Sources
pub mod Unlocking
