pub mod RowChangeLemmas
pub mod RiseLemmas
pub mod SpanLemmas
pub mod AddedLemmas
pub mod ReadLemmas
pub mod TakenLemmas
pub mod TableLemmas
