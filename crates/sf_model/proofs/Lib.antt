pub mod ChangeLemmas
pub mod IndexLemmas
pub mod LockLemmas
pub mod MarkLemmas
pub mod PieceLemmas
pub mod RefusalLemmas
pub mod TableLemmas
