-- Words of the clauses of the crate's own functions.
pub mod Counts
pub mod FreshBytes
pub mod LastPieces
pub mod Trees
pub mod Readings
pub mod Seams
pub mod Settling
