pub mod Contents
pub mod Pieces
pub mod Maps
pub mod Stretches
pub mod MaximalPieces
pub mod Inside
