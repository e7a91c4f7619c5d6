pub mod SharingLemmas
pub mod EntryBirthLemmas
pub mod RowWalkLemmas
pub mod OwnEntryLemmas
pub mod CountingLemmas
pub mod BesideLemmas
