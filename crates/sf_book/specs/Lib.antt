pub mod Books
pub mod Moves
pub mod Inside
