pub mod LocatorWrites
pub mod Inside
