pub mod Values
pub mod ValueBirths
pub mod Inside
