-- Where blocks stand in a play, and its turns (our own).
pub mod Blocks
pub mod Turns
