pub mod EditCalls
pub mod EditedValues
pub mod Inside
