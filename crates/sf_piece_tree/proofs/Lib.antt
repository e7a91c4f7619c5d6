pub mod ContentLemmas
pub mod CutLemmas
pub mod DepthLemmas
pub mod NodeLemmas
pub mod TallyLemmas
pub mod WalkLemmas
pub mod WeightLemmas
