-- Words of the clauses of the crate's own functions.
pub mod Wants
pub mod Written
