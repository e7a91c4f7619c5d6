pub mod BlockSpaceLemmas
pub mod LedgerLemmas
