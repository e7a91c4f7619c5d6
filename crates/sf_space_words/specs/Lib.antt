pub mod Blocks
pub mod Seats
pub mod Rule
pub mod Steps
pub mod Inside
