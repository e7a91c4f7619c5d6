pub mod Asks
pub mod RowChanges
pub mod VersionTables
pub mod Inside
