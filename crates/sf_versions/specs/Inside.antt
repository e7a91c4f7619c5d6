-- Words that serve the versions' own places.
pub mod VersionOrder
pub mod Spans
