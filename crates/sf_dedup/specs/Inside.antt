-- Words that serve the index's own clauses and proofs.
pub mod Filing
