pub mod FloorLemmas
pub mod WantLemmas
pub mod WrittenLemmas
