pub mod AnswerLemmas
pub mod ReadLemmas
pub mod RightLemmas
pub mod WriteLemmas
