pub mod Sittings
pub mod Continuations
pub mod Rule
pub mod Steps
pub mod Inside
pub mod TestSeats
