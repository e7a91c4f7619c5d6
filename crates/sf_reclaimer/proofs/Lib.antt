pub mod MaskLemmas
pub mod LeftLemmas
pub mod StepLemmas
