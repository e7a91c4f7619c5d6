pub mod UpTo
pub mod Inside
