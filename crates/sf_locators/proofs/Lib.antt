pub mod LocatorLemmas
