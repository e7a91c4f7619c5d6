-- Words that serve the proofs of the bodies.
pub mod Answered
pub mod Commits
pub mod CutNotes
pub mod Fields
pub mod Floors
pub mod Plans
pub mod Promises
pub mod Publications
pub mod Settled
pub mod Trials
