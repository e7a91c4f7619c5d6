pub mod UnionLemmas
