pub mod Words
pub mod Numbers
pub mod Payloads
pub mod Calls
pub mod CallTable
pub mod Reads
pub mod Views
pub mod Inside
