pub mod AtHome
pub mod Cores
pub mod Flushing
pub mod Inside
