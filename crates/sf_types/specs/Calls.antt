-- What each call of a session does, and how it is refused.
pub mod Refusals
pub mod Arguments
pub mod RowCalls
pub mod LocatorCalls
pub mod WritingCalls
pub mod Savepoints
pub mod TransactionEnds
pub mod Steps
