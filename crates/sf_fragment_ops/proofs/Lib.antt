pub mod SearchLemmas
pub mod WindowLemmas
