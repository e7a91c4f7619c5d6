-- Words that serve the definitions: finite maps from names, rising lists of births, and the order of holders.
pub mod NameMaps
pub mod Births
pub mod Holders
