pub mod Departures
pub mod Ledgers
pub mod Shifts
pub mod Inside
