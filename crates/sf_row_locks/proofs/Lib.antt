pub mod SlotLemmas
pub mod AddedRowLemmas
pub mod DroppedRowLemmas
pub mod LockLemmas
pub mod ListedLockLemmas
