pub mod BirthLemmas
pub mod BoolLemmas
pub mod ListLemmas
pub mod NameMapLemmas
pub mod NumberLemmas
pub mod RefusalLemmas
pub mod RunLemmas
pub mod VersionLemmas
