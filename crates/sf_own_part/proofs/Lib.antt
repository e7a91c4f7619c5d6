pub mod CallLemmas
pub mod CutLemmas
pub mod LocalLemmas
pub mod LockedLemmas
pub mod PartBirthLemmas
pub mod WriteLemmas
