-- Orders of calls: legal histories, fronts, the texts of replies, and right transcripts.
pub mod Histories
pub mod Fronts
pub mod Texts
pub mod RowEnds
pub mod Transcripts
pub mod EnoughSpace
