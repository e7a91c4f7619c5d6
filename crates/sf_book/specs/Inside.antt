-- Words that serve the Book's own clauses and proofs.
pub mod Bodies
