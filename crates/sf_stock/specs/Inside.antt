-- Words that serve the stock's own clauses and proofs.
pub mod Codes
pub mod Keeps
