pub mod Inside
pub mod Plays
pub mod Stores
pub mod Turns
