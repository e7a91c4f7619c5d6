-- Words that serve the ledger's own clauses and proofs.
pub mod Bounds
pub mod Codes
pub mod Counted
pub mod Counts
pub mod GivenUp
pub mod Keys
pub mod Tallies
pub mod Places
