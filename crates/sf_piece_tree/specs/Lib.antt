pub mod Contents
pub mod Cuts
pub mod Inside
pub mod Walks
pub mod Weights
