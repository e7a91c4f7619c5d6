pub mod ContentLemmas
pub mod FilingLemmas
pub mod MoreLemmas
pub mod FewerLemmas
