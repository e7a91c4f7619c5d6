pub mod Free
pub mod Grants
