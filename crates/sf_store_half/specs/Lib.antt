pub mod Fields
pub mod HalfMoves
pub mod Inside
pub mod Reads
