pub mod Changes
pub use Rattle.sf_types.specs.Calls.Steps
pub use Rattle.sf_types.specs.Table.Parts
pub use Rattle.sf_types.specs.Values.Marks
pub mod Index
pub mod Provisional
pub mod Writable
