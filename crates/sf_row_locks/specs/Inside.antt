-- Words that serve the clauses and proofs of the locks alone.
pub mod SlotOrder
pub mod Slots
