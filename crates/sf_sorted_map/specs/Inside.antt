-- Words that serve the map's own search.
pub mod Places
