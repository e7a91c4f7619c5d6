pub mod Stocks
pub mod Since
pub mod Inside
