pub mod DraftLemmas
pub mod FollowLemmas
pub mod LineLemmas
pub mod NoEndLemmas
pub mod StepLemmas
pub mod TurnLemmas
