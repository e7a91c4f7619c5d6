pub mod Prints
pub mod Contents
pub mod Inside
