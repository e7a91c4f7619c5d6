-- Words that serve the proofs of a session alone.
pub mod Standings
