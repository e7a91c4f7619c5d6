-- Words of the clauses of the crate's own functions.
pub mod Views
pub mod Drafts
pub mod Readings
