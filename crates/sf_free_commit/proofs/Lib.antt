pub mod BatchLemmas
pub mod ParkLemmas
