-- How fresh bytes get blocks: contents, cuts, who holds births, the blocks in use, promises and publications.
pub mod BlockRuns
pub mod Contents
pub mod Cuts
pub mod Due
pub mod Reach
pub mod Use
pub mod Promises
pub mod Publications
pub mod Placings
pub mod Grants
pub mod Plans
