pub mod NeedLemmas
pub mod HomeLemmas
pub mod EventLemmas
pub mod CallHomeLemmas
pub mod PromiseHomeLemmas
pub mod StandingLemmas
