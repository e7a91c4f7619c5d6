-- Words that serve the map's own view.
pub mod Sorted
