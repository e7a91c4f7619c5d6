pub mod EntryLemmas
pub mod HashedLemmas
