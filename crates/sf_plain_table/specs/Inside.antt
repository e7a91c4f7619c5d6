-- Words of the clauses of the crate's own functions.
pub mod MarkViews
pub mod SegmentViews
pub mod Settlings
