pub mod Ends
pub mod OwnWrites
pub mod Readiness
pub mod Inside
